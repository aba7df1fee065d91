-- The values of runs of plain bytes, and of what stands between braces.
use Rattle.std.specs.Prelude.{ℕ, zero, suc, ◌+◌, ◌-◌, ◌%◌, List, [], ◌∷◌, ◌++◌, length, slice_index}
use Rattle.std.specs.Prelude.{Bool, ◌&&◌, ◌||◌, ◌==◌, nat_lt, nat_le, if◌then◌else◌}
use Rattle.tcl_words.specs.Escapes.{unit}
use Rattle.tcl_words.specs.Faults.{noted, to}
use Rattle.tcl_words.specs.Places.{stands, ends_run}
use Rattle.tcl_words.specs.Skips.{turns, spaces_end}
use Rattle.tcl_words.specs.declared.parse_fault.Fault.TheVariants.{BadEscape, TooDeep}
use Rattle.tcl_words.specs.declared.places.Closer.{Closer}
use Rattle.tcl_words.specs.declared.progress.Progress.{Progress}

-- a value, and how far the text has then been read
abbrev pub Read : Type 0 → Type 0
Read A = A × Progress

abbrev pub joined : {A B C : Type 0} → (A → B → C) → Read A → (Progress → Read B) → Read C
joined f a more = (f a.0 (more a.1).0, (more a.1).1)

-- That the turns run out doesn't come, since there are enough, and would be noted.
abbrev pub stopped : {A : Type 0} → A → Progress → Read A
stopped none s = (none, noted (TooDeep s.at) s)

-- Items, each after what stands before it, up to the place after which the test holds. n is enough
-- turns.
unfoldable pub many : {A B : Type 0} → (Progress → Progress) → (Progress → Bool)
    → (Progress → Read A) → (A → B → B) → B → ℕ → Progress → Read B
many before stop item add none zero start = stopped none start
many before stop item add none (suc n) start =
    if stop (before start) then (none, start)
    else joined add (item (before start)) (many before stop item add none n)

-- one byte of a value; a character above 255 is a bad escape
unfoldable pub next_byte : List ℕ → Progress → Read ℕ
next_byte text s =
    let u = unit text s.at in
    (u.0 % 256, to u.1 (if nat_lt 255 u.0 then noted (BadEscape s.at) s else s))

-- the plain bytes up to the next bracket, variable or end
unfoldable pub run : Closer → List ℕ → Progress → Read (List ℕ)
run c text =
    many (λ s. s) (λ s. ends_run c text s.at) (next_byte text) (λ b bs. b ∷ bs) [] (turns text)

-- what stands at the place in braces: "no substitutions are performed on the characters between the
-- braces except for backslash-newline substitutions"
unfoldable pub brace_bytes : List ℕ → ℕ → List ℕ
brace_bytes text at =
    if stands text at 92 then
    (if stands text (at + 1) 10 then 32 ∷ []
    else (if nat_lt (at + 1) (length text) then 92 ∷ slice_index text (at + 1) ∷ [] else 92 ∷ []))
    else slice_index text at ∷ []

-- the place after it
unfoldable pub brace_unit_end : List ℕ → ℕ → ℕ
brace_unit_end text at =
    if stands text at 92 then
    (if stands text (at + 1) 10 then spaces_end text (at + 2)
    else (if nat_lt (at + 1) (length text) then at + 2 else at + 1))
    else at + 1

-- how many braces are open inside the word's own
unfoldable pub inner_after : List ℕ → ℕ → ℕ → ℕ
inner_after text at inner =
    if stands text at 123 then inner + 1
    else (if stands text at 125 then inner - 1 else inner)

-- one more brace than there is room for is too deep
unfoldable pub deepened : ℕ → ℕ → List ℕ → Progress → Progress
deepened room inner text s =
    if stands text s.at 123 && nat_le room inner then noted (TooDeep s.at) s else s

unfoldable pub ends_braces : List ℕ → ℕ → ℕ → Bool
ends_braces text inner at = nat_le (length text) at || stands text at 125 && (inner == 0)

-- the bytes up to the matching brace; n is enough turns
unfoldable pub braces : ℕ → List ℕ → ℕ → ℕ → Progress → Read (List ℕ)
braces room text zero inner s = stopped [] s
braces room text (suc n) inner s =
    if ends_braces text inner s.at then ([], s)
    else joined (λ a b. a ++ b)
    (brace_bytes text s.at, to (brace_unit_end text s.at) (deepened room inner text s))
    (braces room text n (inner_after text s.at inner))
