mod EndMeans
mod InEnds
mod InKinds
mod InPrefixes
mod InReading
mod InTurns
