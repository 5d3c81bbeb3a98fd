mod ColumnMerging
