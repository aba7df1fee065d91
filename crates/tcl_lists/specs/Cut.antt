-- What ends an element.
use Rattle.std.specs.Prelude.{ℕ, Bool}
use Rattle.px_bytes.specs.White.{is_space}
use Rattle.tcl_lists.specs.Element.{is_quote}
use Rattle.tcl_lists.specs.declared.cut.End.{End}
use Rattle.tcl_lists.specs.declared.cut.End.TheVariants.{WhiteSpace, Quote}

abbrev pub stops : End → ℕ → Bool
stops WhiteSpace byte = is_space byte
stops Quote byte = is_quote byte
