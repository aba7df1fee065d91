-- Elements that are found by their text: Tcl 8.4, lsearch(n).
use Rattle.std.specs.Prelude.{ℕ, Bool, List, [], ◌∷◌, codes, position, Option, Some, None, Result}
use Rattle.std.specs.Prelude.{Ok, Err, decimal, if◌then◌else◌}
use Rattle.std.specs.Str.{bytes_eq}
use Rattle.px_bytes.specs.FaultText.{syntax_error, wrong_arity}
use Rattle.px_bytes.specs.Gives.{with_value}
use Rattle.px_bytes.specs.declared.fault.TclFault.{TclFault}
use Rattle.px_bytes.specs.GlobTest.{matches}
use Rattle.tcl_list_commands.specs.Reading.{elements_of}
use Rattle.tcl_list_commands.specs.declared.searching.Search.{Search}
use Rattle.tcl_list_commands.specs.declared.searching.Search.TheVariants.{Exact, Glob}

-- lsearch(n): -exact, "the list element must contain exactly the same string as pattern"; -glob,
-- "pattern is a glob-style pattern which is matched against each list element"
abbrev pub suits : Search → List ℕ → List ℕ → Bool
suits Exact pattern element = bytes_eq pattern element
suits Glob pattern element = matches pattern element

abbrev pub search_of : List ℕ → Option Search
search_of option =
    if bytes_eq option (codes "-exact") then Some Exact
    else (if bytes_eq option (codes "-glob") then Some Glob else None)

-- lsearch(n): "the index of the first matching element", or -1 where there is none
abbrev pub place_text : Option ℕ → List ℕ
place_text (Some place) = decimal place
place_text None = codes "-1"

-- an option that is none is a syntax error, before the list is tried
abbrev pub found : Option Search → List ℕ → List ℕ → Result (List ℕ) TclFault
found None list pattern = Err (syntax_error (codes "lsearch"))
found (Some search) list pattern =
    with_value (elements_of (codes "lsearch") list)
    (λ elements. Ok (place_text (position (suits search pattern) elements)))

-- lsearch(n): "the default matching style is -glob"
abbrev pub lsearch_value : List (List ℕ) → Result (List ℕ) TclFault
lsearch_value [] = Err (wrong_arity (codes "lsearch"))
lsearch_value (word ∷ []) = Err (wrong_arity (codes "lsearch"))
lsearch_value (list ∷ (pattern ∷ [])) = found (Some Glob) list pattern
lsearch_value (option ∷ (list ∷ (pattern ∷ []))) = found (search_of option) list pattern
lsearch_value (option ∷ (list ∷ (pattern ∷ (word ∷ words)))) = Err (wrong_arity (codes "lsearch"))
