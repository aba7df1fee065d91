-- What stands at the front of a stream where a head is due: RFC 9112, 2.1 (an empty line ends it) and 2.2
-- (a server ignores empty lines before a request line).
use Rattle.std.specs.Prelude.{◌≡◌, ℕ, ◌+◌, ◌≤◌, ◌==◌, ◌&&◌, List, [], ◌∷◌, length, take, drop}
use Rattle.std.specs.Prelude.{Bool, true, false, Option, Some, None, nat_le, if◌then◌else◌}
use Rattle.memchr.specs.Find.{first_of, matches}
use Rattle.seg_buffer.specs.Bytes.{crlf2, is_empty}
use Rattle.px_bytes.specs.declared.fault.HttpFault.TheVariants as fault
use Rattle.http_heads.specs.declared.front.HeadPart.{HeadPart}
use Rattle.http_heads.specs.declared.front.HeadPart.TheVariants.{HeadOf, StreamEnds, Faulty, NoHead}
use Rattle.http_heads.specs.declared.front.Looked.{Looked}

-- an empty line stands at the front
abbrev pub begins_blank : List ℕ → Bool
begins_blank [] = false
begins_blank (x ∷ []) = false
begins_blank (x ∷ y ∷ rest) = x == 13 && y == 10

-- the empty lines before a head
abbrev pub blank_length : List ℕ → ℕ
blank_length [] = 0
blank_length (x ∷ []) = 0
blank_length (x ∷ y ∷ rest) = if x == 13 && y == 10 then 2 + blank_length rest else 0

abbrev pub head_limit : ℕ
head_limit = 65536

-- no end of a head stands in it
abbrev pub headless : (long ended empty : Bool) → HeadPart
headless true ended empty = Faulty fault.LongHead
headless false true true = StreamEnds
headless false true false = Faulty fault.BadHead
headless false false empty = NoHead

abbrev pub head_by : (blank : ℕ) → Option ℕ → (long ended empty : Bool) → HeadPart
head_by blank (Some place) long ended empty = HeadOf (blank + place + 4)
head_by blank None long ended empty = headless long ended empty

-- the end is looked for in the first 65,536 bytes, the empty lines among them
abbrev pub head_part : List ℕ → Bool → HeadPart
head_part unread ended =
    let front = take head_limit unread in
    let blank = blank_length front in
    let rest = drop blank front in
    head_by blank (first_of (matches rest crlf2 0)) (nat_le head_limit (length unread)) ended
    (is_empty rest)

abbrev pub none_looked : Looked
none_looked = record { size = 0; blank = 0 }

-- so many bytes at the front held no head when more was to come, and so many of them are empty lines
pub record WereLooked (looked : Looked) (unread : List ℕ) : Type 0 where
  pub inside : looked.size ≤ length unread
  pub blank : looked.blank ≡ blank_length (take looked.size unread)
  pub none : head_part (take looked.size unread) false ≡ NoHead

-- what a look leaves: where no head stands yet all bytes were looked at
abbrev pub Looks : HeadPart → (old new : Looked) → List ℕ → Type 0
Looks NoHead old new unread = (new.size ≡ length unread) × WereLooked new unread
Looks part old new unread = new ≡ old

abbrev pub LooksAll : HeadPart → (old new : Looked) → (size blank : ℕ) → Type 0
LooksAll NoHead old new size blank = new ≡ record { size = size; blank = blank }
LooksAll part old new size blank = new ≡ old
