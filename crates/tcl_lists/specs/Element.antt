-- The elements of a list in a text: Tcl 8.4, lindex(n) and Tcl(n). A backslash and the byte behind
-- it stand together, counted from the left.
use Rattle.std.specs.Prelude.{ℕ, ◌+◌, ◌-◌, Bool, true, false, not, ◌&&◌, List, [], ◌∷◌, length}
use Rattle.std.specs.Prelude.{take, drop, Result, Ok, Err, nat_lt, ◌==◌, if◌then◌else◌}
use Rattle.px_bytes.specs.White.{is_space}
use Rattle.tcl_lists.specs.Escape.{replaced}
use Rattle.tcl_lists.specs.declared.fault.ListFault.{ListFault}
use Rattle.tcl_lists.specs.declared.fault.ListFault.TheVariants.{OpenBrace, OpenQuote, Extra}
use Rattle.tcl_lists.specs.declared.place.ElementPlace.{ElementPlace}

-- whether the next byte is behind a backslash, where `taken` says so of this one
abbrev pub takes_next : Bool → ℕ → Bool
takes_next taken byte = not taken && byte == 92

abbrev pub is_quote : ℕ → Bool
is_quote byte = byte == 34

-- how many bytes stand before the first that passes the test and isn't behind a backslash
abbrev pub free_len : (ℕ → Bool) → Bool → List ℕ → ℕ
free_len test taken [] = 0
free_len test taken (b ∷ bs) =
    if not taken && test b then 0 else 1 + free_len test (takes_next taken b) bs

-- how many braces are open behind a byte, where `depth` are before it
abbrev pub depth_behind : Bool → ℕ → ℕ → ℕ
depth_behind taken depth byte =
    if not taken && byte == 123 then depth + 1
    else (if not taken && byte == 125 then depth - 1 else depth)

-- how many bytes stand before the brace that closes the one before them; `depth` more are open
abbrev pub brace_len : Bool → ℕ → List ℕ → ℕ
brace_len taken depth [] = 0
brace_len taken depth (b ∷ bs) =
    if not taken && (b == 125 && depth == 0) then 0
    else 1 + brace_len (takes_next taken b) (depth_behind taken depth b) bs

-- an element: its bytes without braces or quotes, where they begin, and whether it is in braces
pub record ListElement : Type 0 where
  pub raw : List ℕ
  pub start : ℕ
  pub braced : Bool

-- in braces the bytes unchanged, else with each escape replaced
abbrev pub value_of : ListElement → List ℕ
value_of e = if e.braced then e.raw else replaced e.raw

abbrev pub place_of : ListElement → ElementPlace
place_of e = record { start = e.start; end = e.start + length e.raw; braced = e.braced }

-- an element, and how many bytes behind its first it takes
pub record Found : Type 0 where
  pub element : ListElement
  pub more : ℕ

-- white space or the end
abbrev pub stands_alone : List ℕ → Bool
stands_alone [] = true
stands_alone (b ∷ bs) = is_space b

-- the element whose brace or quote stands at the place, and whose closing one stands behind `count`
-- bytes
abbrev pub enclosed : ℕ → ListFault → Bool → ℕ → List ℕ → Result Found ListFault
enclosed at fault braced count rest =
    if nat_lt count (length rest)
    then (if stands_alone (drop (count + 1) rest)
    then Ok (record {
      element = record { raw = take count rest; start = at + 1; braced = braced };
      more = count + 1;
    })
    else Err (Extra at))
    else Err fault

-- an element that begins with neither a brace nor a quote
abbrev pub bare : ℕ → ℕ → List ℕ → Found
bare at b rest = let count = free_len is_space (b == 92) rest in
    record {
      element = record { raw = b ∷ take count rest; start = at; braced = false };
      more = count;
    }

-- the element whose first byte is `b`, at the place
abbrev pub element : ℕ → ℕ → List ℕ → Result Found ListFault
element at b rest =
    if b == 123 then enclosed at (OpenBrace at) true (brace_len false 0 rest) rest
    else (if b == 34 then enclosed at (OpenQuote at) false (free_len is_quote false rest) rest
    else Ok (bare at b rest))
