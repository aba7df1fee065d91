-- The forms of the command `string`, by name: Tcl 8.4, string(n).
use Rattle.std.specs.Prelude.{ℕ, List, codes, Option, Some, None, if◌then◌else◌}
use Rattle.std.specs.Str.{bytes_eq}
use Rattle.tcl_strings.specs.declared.form.Form.{Form}
use Rattle.tcl_strings.specs.declared.form.Form.TheVariants.{Length, Index, Range, ToLower, ToUpper}
use Rattle.tcl_strings.specs.declared.form.Form.TheVariants.{Trim, TrimLeft, TrimRight, First, Last}
use Rattle.tcl_strings.specs.declared.form.Form.TheVariants.{Match, Equal, Compare, Repeat, Map}

-- the form of this name
abbrev pub form_named : List ℕ → Option Form
form_named name =
    if bytes_eq name (codes "length") then Some Length
    else (if bytes_eq name (codes "index") then Some Index
    else (if bytes_eq name (codes "range") then Some Range
    else (if bytes_eq name (codes "tolower") then Some ToLower
    else (if bytes_eq name (codes "toupper") then Some ToUpper
    else (if bytes_eq name (codes "trim") then Some Trim
    else (if bytes_eq name (codes "trimleft") then Some TrimLeft
    else (if bytes_eq name (codes "trimright") then Some TrimRight
    else (if bytes_eq name (codes "first") then Some First
    else (if bytes_eq name (codes "last") then Some Last
    else (if bytes_eq name (codes "match") then Some Match
    else (if bytes_eq name (codes "equal") then Some Equal
    else (if bytes_eq name (codes "compare") then Some Compare
    else (if bytes_eq name (codes "repeat") then Some Repeat
    else (if bytes_eq name (codes "map") then Some Map
    else None))))))))))))))
