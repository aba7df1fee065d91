-- A link in memory, by its scripts.
use Rattle.std.specs.Prelude.{◌≡◌, ℕ, ◌+◌, ◌==◌, ◌≤◌, List, [], ◌∷◌, ◌++◌, length, take, drop, min}
use Rattle.std.specs.Prelude.{nat_lt, Option, Some, None, slice_get, Bool, true, false, ◌||◌, ◌⊎◌}
use Rattle.std.specs.Prelude.{if◌then◌else◌}
use Rattle.px_bytes.specs.declared.addr.Addr.{Addr}
use Rattle.px_outside.specs.declared.answers.ReadAnswer.{ReadAnswer}
use Rattle.px_outside.specs.declared.answers.ReadAnswer.TheVariants as read
use Rattle.px_outside.specs.declared.answers.WriteAnswer.{WriteAnswer}
use Rattle.px_outside.specs.declared.answers.WriteAnswer.TheVariants as write
use Rattle.px_outside.specs.declared.answers.ConnectAnswer.{ConnectAnswer}
use Rattle.px_outside.specs.declared.answers.ConnectAnswer.TheVariants as connect
use Rattle.px_outside.specs.declared.mem_script.MemRead.{MemRead}
use Rattle.px_outside.specs.declared.mem_script.MemRead.TheVariants as item
use Rattle.px_outside.specs.declared.mem_script.MemWrite.{MemWrite}
use Rattle.px_outside.specs.declared.mem_script.MemWrite.TheVariants as room
use Rattle.px_outside.specs.Outside.{counted_up}

pub record LinkInMemory : Type 0 where
  -- the slot of the listener that gives it; none where `connect` does
  pub slot : Option ℕ
  pub from : Addr
  pub connect : ConnectAnswer
  -- what is left of the scripts
  pub reads : List MemRead
  pub writes : List MemWrite
  pub given : Bool
  -- given, and neither closed nor refused
  pub alive : Bool
  -- its End was read
  pub ended : Bool
  -- the bytes that it took
  pub taken : List ℕ
  pub faults : ℕ

-- of the items, with so many bytes of the first one read
abbrev pub cut_front : ℕ → List MemRead → List MemRead
cut_front done [] = []
cut_front done (item.Bytes b ∷ rest) = item.Bytes (drop done b) ∷ rest
cut_front done (other ∷ rest) = other ∷ rest

-- no more of the first item was read than there is
abbrev pub IsWithinFront : ℕ → List MemRead → Type 0
IsWithinFront done [] = done ≡ 0
IsWithinFront done (item.Bytes b ∷ rest) = done ≤ length b
IsWithinFront done (other ∷ rest) = done ≡ 0

-- a place in a script, and how many bytes of the item there were read
pub record IsPlace (items : List MemRead) (at done : ℕ) : Type 0 where
  pub within : at ≤ length items
  pub front : IsWithinFront done (drop at items)

-- the item waits for a link that has ended
abbrev pub is_over : (ℕ → Bool) → MemRead → Bool
is_over ended (item.After n) = ended n
is_over ended other = false

-- how many items at the front are over
abbrev pub over : (ℕ → Bool) → List MemRead → ℕ
over ended [] = 0
over ended (first ∷ rest) = if is_over ended first then over ended rest + 1 else 0

-- the link without those items
abbrev pub passed_over : (ℕ → Bool) → LinkInMemory → LinkInMemory
passed_over ended l = record l { reads = drop (over ended l.reads) l.reads }

pub record ReadLeft : Type 0 where
  pub answer : ReadAnswer
  pub bytes : List ℕ
  pub reads : List MemRead

-- bytes that the room does not hold stay for the next read
abbrev pub bytes_left : List ℕ → ℕ → List MemRead → List MemRead
bytes_left b room rest = if nat_lt room (length b) then item.Bytes (drop room b) ∷ rest else rest

-- what a read of so much room gives, and what it leaves of the script
abbrev pub reading : List MemRead → ℕ → ReadLeft
reading [] room = record { answer = read.NotYet; bytes = []; reads = [] }
reading (item.Bytes [] ∷ rest) room = record { answer = read.NotYet; bytes = []; reads = rest }
reading (item.Bytes (x ∷ b) ∷ rest) room =
    record {
      answer = read.Got (min room (length (x ∷ b)));
      bytes = take room (x ∷ b);
      reads = bytes_left (x ∷ b) room rest;
    }
reading (item.NotYet ∷ rest) room = record { answer = read.NotYet; bytes = []; reads = rest }
reading (item.After n ∷ rest) room =
    record { answer = read.NotYet; bytes = []; reads = item.After n ∷ rest }
reading (item.End ∷ rest) room = record { answer = read.End; bytes = []; reads = rest }
reading (item.Reset ∷ rest) room = record { answer = read.Reset; bytes = []; reads = rest }

abbrev pub is_end : ReadAnswer → Bool
is_end read.End = true
is_end _ = false

abbrev pub is_reset : ReadAnswer → Bool
is_reset read.Reset = true
is_reset _ = false

-- the link after a read with this answer
abbrev pub after_read : LinkInMemory → ReadLeft → LinkInMemory
after_read l left = record l {
  reads = left.reads;
  ended = is_end left.answer || l.ended;
  faults = if is_reset left.answer then counted_up l.faults else l.faults;
}

-- a read of an open link: its answer, its bytes, and what the link is then
pub record ReadsLink (l : LinkInMemory) (len : ℕ) (said : ReadAnswer) (into : List ℕ)
    (l' : LinkInMemory) : Type 0 where
  pub answer : said ≡ (reading l.reads len).answer
  pub bytes : into ≡ (reading l.reads len).bytes
  pub link : l' ≡ after_read l (reading l.reads len)

-- what a write of so many bytes is answered at the first item that is left
abbrev pub write_answer : Option MemWrite → ℕ → WriteAnswer
write_answer None len = write.Took len
write_answer (Some (room.Upto n)) len = if n == 0 then write.NotYet else write.Took (min n len)
write_answer (Some room.NotYet) len = write.NotYet
write_answer (Some room.Never) len = write.NotYet
write_answer (Some room.Reset) len = write.Reset

-- what a write leaves of the script
abbrev pub writes_left : List MemWrite → List MemWrite
writes_left [] = []
writes_left (room.Never ∷ rest) = room.Never ∷ rest
writes_left (other ∷ rest) = rest

-- how many bytes an answer says were taken
abbrev pub took : WriteAnswer → ℕ
took (write.Took n) = n
took _ = 0

abbrev pub is_write_reset : WriteAnswer → Bool
is_write_reset write.Reset = true
is_write_reset _ = false

-- the link after a write with this answer
abbrev pub after_write : LinkInMemory → List ℕ → WriteAnswer → LinkInMemory
after_write l bytes said = record l {
  writes = writes_left l.writes;
  taken = l.taken ++ take (took said) bytes;
  faults = if is_write_reset said then counted_up l.faults else l.faults;
}

-- where the link found no memory for the bytes, it failed, and its script stays
pub record FindsNoMemory (l : LinkInMemory) (len : ℕ) (said : WriteAnswer)
    (l' : LinkInMemory) : Type 0 where
  pub taken : ℕ
  pub taking : write_answer (slice_get l.writes 0) len ≡ write.Took taken
  pub answer : said ≡ write.Reset
  pub link : l' ≡ record l { faults = counted_up l.faults }

-- a write to an open link
abbrev pub WritesLink : LinkInMemory → List ℕ → WriteAnswer → LinkInMemory → Type 0
WritesLink l bytes said l' =
    ((said ≡ write_answer (slice_get l.writes 0) (length bytes)) × (l' ≡ after_write l bytes said))
    ⊎ FindsNoMemory l (length bytes) said l'

-- the link after its connection was asked for
abbrev pub after_answer : LinkInMemory → ConnectAnswer → LinkInMemory
after_answer l connect.Refused = record l { alive = false; faults = counted_up l.faults }
after_answer l other = l

-- what its calls leave as it is: it stays given, opens no more, and its count does not fall
pub record Keeps (l l' : LinkInMemory) : Type 0 where
  pub given : l'.given ≡ l.given
  pub alive : l'.alive ≡ true → l.alive ≡ true
  pub faults : l.faults ≤ l'.faults

-- the link that `connect` gives where none is left
abbrev pub refused_link : Addr → LinkInMemory
refused_link to = record {
  slot = None;
  from = to;
  connect = connect.Refused;
  reads = [];
  writes = [];
  given = true;
  alive = true;
  ended = false;
  taken = [];
  faults = 0;
}
