-- Tokens.
use Rattle.std.specs.Prelude.{ℕ, List}
use Rattle.tmsh_read.proofs.ReaderTypes.{Token}
use Rattle.tmsh_read.specs.declared.token.Token.TheVariants as kind

abbrev pub Open : Token
Open = kind.Open

abbrev pub Close : Token
Close = kind.Close

abbrev pub Run : List ℕ → Token
Run word = kind.Run word

abbrev pub Quoted : List ℕ → Token
Quoted word = kind.Quoted word

abbrev pub Braced : List ℕ → Token
Braced word = kind.Braced word

abbrev pub End : Token
End = kind.End

abbrev pub Broken : Token
Broken = kind.Broken
