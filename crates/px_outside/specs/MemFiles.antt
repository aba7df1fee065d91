-- Files in memory.
use Rattle.std.specs.Prelude.{ℕ, List, Option, None, is_some, ◌==◌, if◌then◌else◌}
use Rattle.std.specs.Str.{bytes_eq}
use Rattle.std.specs.Map.{lookup}
use Rattle.std.specs.List.{list_any}
use Rattle.px_outside.specs.Outside.{counted_up}

pub record FilesInMemory : Type 0 where
  -- each name with its contents
  pub files : List (List ℕ × List ℕ)
  -- the numbers of the reads that fail, the first read being 1
  pub fails : List ℕ
  -- how many reads there were
  pub calls : ℕ
  -- how many of them failed
  pub faults : ℕ

-- the contents of the first file of a name
abbrev pub contents_of : List (List ℕ × List ℕ) → List ℕ → Option (List ℕ)
contents_of files name = lookup (λ other. bytes_eq other name) files

-- what the next read of a name gives: nothing where its number is among those that fail, or where
-- no file has the name
abbrev pub next_read : FilesInMemory → List ℕ → Option (List ℕ)
next_read m name =
    if list_any (λ number. number == counted_up m.calls) m.fails then None
    else contents_of m.files name

-- the files after that read, which is counted, as is its fault where it gives nothing
abbrev pub after_read : FilesInMemory → List ℕ → FilesInMemory
after_read m name = record m {
  calls = counted_up m.calls;
  faults = if is_some (next_read m name) then m.faults else counted_up m.faults;
}
