-- Why a configuration doesn't load, for a reader: the line that `check` prints; then the file, the place and what is wrong, in words;
-- then the line of the text there with a mark under the byte, where the fault has a line.
use Rattle.std.specs.Prelude.{ℕ, ◌-◌, ◌&&◌, ◌==◌, Bool, List, [], ◌∷◌, ◌++◌, codes, decimal, drop}
use Rattle.std.specs.Prelude.{flat_map, map, nat_le, Option, Some, None, take, if◌then◌else◌}
use Rattle.config.specs.FaultWords.{words_of}
use Rattle.config.specs.declared.config.VirtualSettings.{VirtualSettings}
use Rattle.config.specs.declared.fault.ConfigFault.{ConfigFault}
use Rattle.config.specs.declared.spot.Source.{Source}
use Rattle.config.specs.declared.spot.Source.TheVariants as source
use Rattle.config.specs.declared.spot.Spot.{Spot}
use Rattle.px_bytes.specs.Address.{addr_text}
use Rattle.proxy.specs.Loads.{is_read_fault}
use Rattle.proxy.specs.Says.{fault_text}

abbrev pub joined : List (List ℕ) → List ℕ
joined parts = flat_map (λ part. part) parts

-- ---- a line with a mark

abbrev pub is_printable : ℕ → Bool
is_printable b = nat_le 32 b && nat_le b 126

-- a blank of a tab, and `?` of any other byte that isn't printable in ASCII, so that a mark stands under its byte
abbrev pub shown_byte : ℕ → ℕ
shown_byte b = if is_printable b then b else (if b == 9 then 32 else 63)

-- from which byte on a line is shown: a hundred stand before the mark at most
abbrev pub shown_from : ℕ → ℕ
shown_from column = column - 101

-- 160 bytes of the rest of a line, and the mark behind so many bytes of it
abbrev pub marked_rest : List ℕ → ℕ → List ℕ
marked_rest rest before = joined (
    codes "    " ∷ map shown_byte (take 160 rest) ∷ codes "\n    "
    ∷ map (λ b. 32) (take before rest) ∷ codes "^\n" ∷ [])

abbrev pub marked_line : List ℕ → ℕ → List ℕ
marked_line text column =
    marked_rest (drop (shown_from column) text) (column - 1 - shown_from column)

-- ---- a fault

abbrev pub said_text : Source → List ℕ
said_text (source.Document said) = joined (codes ": " ∷ said ∷ [])
said_text (source.Rule at) = []
said_text (source.File name) = []
said_text source.Key = []

abbrev pub spot_tail : Spot → List ℕ
spot_tail s = joined (said_text s.source ∷ codes "\n" ∷ marked_line s.text s.column ∷ [])

abbrev pub fault_tail : Option Spot → List ℕ
fault_tail None = codes "\n"
fault_tail (Some s) = spot_tail s

-- as `:3:9: `
abbrev pub spot_place : ℕ → ℕ → List ℕ
spot_place line column =
    codes ":" ++ (decimal line ++ (codes ":" ++ (decimal column ++ codes ": ")))

-- as `rules.tcl:3:9: `
abbrev pub place_head : List ℕ → ℕ → ℕ → List ℕ
place_head file line column = joined (file ∷ spot_place line column ∷ [])

-- as `: rule[0], line 3, column 9 of its text: `
abbrev pub rule_spot : ℕ → ℕ → ℕ → List ℕ
rule_spot at line column =
    codes ": rule[" ++ (decimal at ++ (codes "], line " ++ (decimal line
    ++ (codes ", column " ++ (decimal column ++ codes " of its text: ")))))

abbrev pub rule_head : List ℕ → ℕ → ℕ → ℕ → List ℕ
rule_head config at line column = joined (config ∷ rule_spot at line column ∷ [])

-- as `hi.toml:5:1: virtual[0].nmae: `
abbrev pub line_head : List ℕ → List ℕ → ℕ → ℕ → List ℕ
line_head config key line column =
    joined (place_head config line column ∷ key ∷ codes ": " ∷ [])

abbrev pub source_head : List ℕ → List ℕ → ℕ → ℕ → Source → List ℕ
source_head config key line column (source.Document said) = place_head config line column
source_head config key line column (source.File name) = place_head name line column
source_head config key line column (source.Rule at) = rule_head config at line column
source_head config key line column source.Key = line_head config key line column

abbrev pub spot_head : List ℕ → List ℕ → Spot → List ℕ
spot_head config key s = source_head config key s.line s.column s.source

-- a file that can't be read, or a key of the configuration
abbrev pub key_head : Bool → List ℕ → List ℕ → List ℕ
key_head is_file config place =
    if is_file then joined (place ∷ codes ": " ∷ [])
    else joined (config ∷ codes ": " ∷ place ∷ codes ": " ∷ [])

abbrev pub head_by : List ℕ → ConfigFault → Option Spot → List ℕ
head_by config f None = key_head (is_read_fault f.kind) config f.place
head_by config f (Some s) = spot_head config f.place s

abbrev pub fault_head : List ℕ → ConfigFault → List ℕ
fault_head config f = head_by config f f.spot

abbrev pub explanation : List ℕ → ConfigFault → List ℕ
explanation config f = joined (
    fault_text f ∷ fault_head config f ∷ words_of f.kind ∷ fault_tail f.spot ∷ [])

-- ---- a configuration that loads

abbrev pub addresses : List VirtualSettings → List ℕ
addresses vs = flat_map (λ v. codes " " ++ addr_text v.listen) vs

abbrev pub loads_text : List ℕ → List VirtualSettings → List ℕ
loads_text config vs =
    joined (config ∷ codes " loads; it listens at:" ∷ addresses vs ∷ codes "\n" ∷ [])
