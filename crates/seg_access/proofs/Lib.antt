mod DocumentPieces
mod JsonCopies
mod PieceHeads
mod SpelledTrees
