-- Texts that are compared: Tcl 8.4, string(n), `string compare`, by bytes.
use Rattle.std.specs.Prelude.{ℕ, List, codes, Result, Ok}
use Rattle.std.specs.Cmp.Lexicographic.{slice_cmp}
use Rattle.std.specs.Ordering.{nat_cmp}
use Rattle.std.specs.declared.cmp.Ordering.{Ordering}
use Rattle.std.specs.declared.cmp.Ordering.TheVariants.{Less, Equal, Greater}
use Rattle.px_bytes.specs.declared.fault.TclFault.{TclFault}

-- "-1, 0, or 1, depending on whether string1 is lexicographically less than, equal to, or greater
-- than string2"
abbrev pub order_text : Ordering → List ℕ
order_text Less = codes "-1"
order_text Equal = codes "0"
order_text Greater = codes "1"

abbrev pub compare_value : List ℕ → List ℕ → Result (List ℕ) TclFault
compare_value a b = Ok (order_text (slice_cmp nat_cmp a b))
