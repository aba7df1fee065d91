-- The grammar of lists over whole texts (Tcl 8.4, lindex(n)), by the sentences of the manual and
-- apart from any order of reading. A backslash and the byte behind it stand together.
use Rattle.std.specs.Prelude.{◌≡◌, ◌↔◌, ℕ, Bool, true, false, not, ◌&&◌, List, [], ◌∷◌, ◌++◌}
use Rattle.std.specs.Prelude.{Result, Ok, Err, ⊤, ◌==◌}
use Rattle.px_bytes.specs.White.{is_space}
use Rattle.tcl_lists.specs.Element.{is_quote, stands_alone}
use Rattle.tcl_lists.specs.Escape.{replaced}
use Rattle.tcl_lists.specs.Read.{list_values}
use Rattle.tcl_lists.specs.declared.fault.ListFault.{ListFault}
use Rattle.tcl_lists.specs.declared.fault.ListFault.TheVariants.{Memory}

-- neither a brace nor a backslash
abbrev pub is_plain : ℕ → Bool
is_plain b = not (b == 92) && (not (b == 123) && not (b == 125))

-- each brace that isn't behind a backslash has its partner
pub data Balanced : List ℕ → Type 0 where
  NoByte : Balanced []
  Plain : {b : ℕ} {xs : List ℕ} → is_plain b ≡ true → Balanced xs → Balanced (b ∷ xs)
  Taken : (b : ℕ) {xs : List ℕ} → Balanced xs → Balanced (92 ∷ (b ∷ xs))
  Nested : {xs ys : List ℕ} → Balanced xs → Balanced ys → Balanced (123 ∷ (xs ++ (125 ∷ ys)))

-- no byte that isn't behind a backslash passes the test
pub data Free (test : ℕ → Bool) : List ℕ → Type 0 where
  FreeEnd : Free test []
  FreeByte : {b : ℕ} {xs : List ℕ}
      → test b ≡ false → (b == 92) ≡ false → Free test xs → Free test (b ∷ xs)
  FreeTaken : (b : ℕ) {xs : List ℕ} → Free test xs → Free test (92 ∷ (b ∷ xs))

-- an element begins so that stands neither in braces nor in quotes
abbrev pub begins_bare : List ℕ → Bool
begins_bare [] = false
begins_bare (b ∷ bs) = not (is_space b) && (not (b == 123) && not (b == 34))

-- The text is a list of these values: elements with white space before, between and behind them. An
-- element in braces is its bytes; in quotes, and in neither, its backslashes are replaced. A last
-- backslash of the text stands for itself.
pub data IsList : List ℕ → List (List ℕ) → Type 0 where
  NoElement : IsList [] []
  White : {b : ℕ} {text : List ℕ} {xs : List (List ℕ)}
      → is_space b ≡ true → IsList text xs → IsList (b ∷ text) xs
  InBraces : {raw rest : List ℕ} {xs : List (List ℕ)}
      → Balanced raw → stands_alone rest ≡ true
      → IsList rest xs → IsList (123 ∷ (raw ++ (125 ∷ rest))) (raw ∷ xs)
  InQuotes : {raw rest : List ℕ} {xs : List (List ℕ)}
      → Free is_quote raw → stands_alone rest ≡ true
      → IsList rest xs → IsList (34 ∷ (raw ++ (34 ∷ rest))) (replaced raw ∷ xs)
  Bare : {raw rest : List ℕ} {xs : List (List ℕ)}
      → begins_bare raw ≡ true → Free is_space raw → stands_alone rest ≡ true
      → IsList rest xs → IsList (raw ++ rest) (replaced raw ∷ xs)
  BareEnd : {raw : List ℕ} → begins_bare (raw ++ (92 ∷ [])) ≡ true → Free is_space raw
      → IsList (raw ++ (92 ∷ [])) (replaced (raw ++ (92 ∷ [])) ∷ [])

-- a text reads as these values exactly where it is a list of them
abbrev pub ReadsExactlyLists : Type 0
ReadsExactlyLists =
    (text : List ℕ) (xs : List (List ℕ)) → (list_values text ≡ Ok xs) ↔ IsList text xs

-- the values make the text a list, or nothing does
abbrev pub SplitsList : List ℕ → Result (List (List ℕ)) ListFault → Type 0
SplitsList text (Ok xs) = IsList text xs
SplitsList text (Err Memory) = ⊤
SplitsList text (Err fault) = (xs : List (List ℕ)) → ¬ IsList text xs
