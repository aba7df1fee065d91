-- The keys of each table of a configuration: what stands there, what is meant where nothing does,
-- and the ranges. Version 2 has all keys of version 1, and means the same by them.
use Rattle.std.specs.Prelude.{ℕ, Bool, true, false, List, [], ◌∷◌, ◌++◌, codes, map, ◌^◌, ◌-◌}
use Rattle.config.specs.declared.key.Form.{Form}
use Rattle.config.specs.declared.key.Form.TheVariants.{Any, Name, Address}
use Rattle.config.specs.declared.key.Kind.{Kind}
use Rattle.config.specs.declared.key.Kind.TheVariants as code
use Rattle.config.specs.declared.key.Key.{Key}
use Rattle.config.specs.declared.version.Version.{Version}
use Rattle.config.specs.declared.version.Version.TheVariants.{One, Two}

pub data KeyKind : Type 0 where
  whole : (low high usual : ℕ) → KeyKind
  truth : KeyKind
  text : Form → KeyKind
  one_of : List (List ℕ) → KeyKind
  array : (most : ℕ) → KeyKind

pub record TableKey : Type 0 where
  pub name : List ℕ
  pub required : Bool
  pub kind : KeyKind

-- ---- as the code has them

abbrev pub kind_view : Kind → KeyKind
kind_view (code.Whole low high usual) = whole low high usual
kind_view code.Truth = truth
kind_view (code.Text form) = text form
kind_view (code.OneOf words) = one_of (map (λ w. w.now) words.now)
kind_view (code.Array most) = array most

abbrev pub key_view : Key → TableKey
key_view k = record { name = k.name.now; required = k.required; kind = kind_view k.kind }

-- ---- the keys

abbrev pub required : List ℕ → KeyKind → TableKey
required name kind = record { name = name; required = true; kind = kind }

abbrev pub optional : List ℕ → KeyKind → TableKey
optional name kind = record { name = name; required = false; kind = kind }

abbrev pub version : TableKey
version = required (codes "version") (whole 1 2 1)

-- units that each body may spend
abbrev pub budget : TableKey
budget = optional (codes "budget") (whole 1 1000000 100000)

-- connections that may be live at once
abbrev pub connections_in : Version → TableKey
connections_in One = optional (codes "connections") (whole 1 4096 512)
connections_in Two = optional (codes "connections") (whole 1 8192 512)

abbrev pub connections : TableKey
connections = connections_in Two

-- seconds without bytes after which a connection is cut
abbrev pub idle : TableKey
idle = optional (codes "idle") (whole 1 86400 300)

-- rows of the session table that may be live at once
abbrev pub table_rows : TableKey
table_rows = optional (codes "rows") (whole 1 131072 65536)

abbrev pub servers : TableKey
servers = optional (codes "virtual") (array 65536)

abbrev pub pools : TableKey
pools = optional (codes "pool") (array 65536)

abbrev pub rules : TableKey
rules = optional (codes "rule") (array 65536)

abbrev pub groups : TableKey
groups = optional (codes "group") (array 65536)

abbrev pub section_keys : List TableKey
section_keys = servers ∷ pools ∷ rules ∷ groups ∷ []

abbrev pub top_keys : Version → List TableKey
top_keys One = version ∷ budget ∷ connections_in One ∷ idle ∷ section_keys
top_keys Two = version ∷ budget ∷ connections_in Two ∷ idle ∷ table_rows ∷ section_keys

-- of a virtual server, a pool, a rule or a group
abbrev pub name_key : TableKey
name_key = required (codes "name") (text Name)

-- ---- of a virtual server

abbrev pub listen : TableKey
listen = required (codes "listen") (text Address)

abbrev pub http : TableKey
http = optional (codes "http") truth

abbrev pub pool_name : TableKey
pool_name = optional (codes "pool") (text Any)

abbrev pub persist : TableKey
persist =
    optional (codes "persist") (one_of (codes "none" ∷ codes "source_addr" ∷ codes "cookie" ∷ []))

-- seconds
abbrev pub persist_timeout : TableKey
persist_timeout = optional (codes "persist_timeout") (whole 1 86400 180)

-- a rule stands there once at most, so there is no greatest length
abbrev pub rule_names : TableKey
rule_names = optional (codes "rules") (array (2 ^ 64 - 1))

-- in their order: those up to `persist`, which may be out of its range for another one's sake, and
-- those behind it
abbrev pub virtual_front : List TableKey
virtual_front = name_key ∷ listen ∷ http ∷ pool_name ∷ persist ∷ []

abbrev pub virtual_back : List TableKey
virtual_back = persist_timeout ∷ rule_names ∷ []

abbrev pub virtual_keys : List TableKey
virtual_keys = virtual_front ++ virtual_back

-- ---- of a pool and of its members

abbrev pub method : TableKey
method = optional (codes "method") (one_of (codes "round_robin" ∷ codes "ratio" ∷ []))

abbrev pub members : TableKey
members = optional (codes "members") (array 1000)

-- members that are up, below which number the group of the next priority serves too; no more than
-- the pool has
abbrev pub min_active : ℕ → TableKey
min_active most = optional (codes "min_active") (whole 0 most 0)

abbrev pub pool_keys : Version → (most : ℕ) → List TableKey
pool_keys One most = name_key ∷ method ∷ members ∷ []
pool_keys Two most = name_key ∷ method ∷ members ∷ min_active most ∷ []

abbrev pub addr : TableKey
addr = required (codes "addr") (text Address)

abbrev pub ratio : TableKey
ratio = optional (codes "ratio") (whole 1 100 1)

-- members of one priority are a group; the higher serve first
abbrev pub priority : TableKey
priority = optional (codes "priority") (whole 0 100 0)

abbrev pub member_keys : Version → List TableKey
member_keys One = addr ∷ ratio ∷ []
member_keys Two = addr ∷ ratio ∷ priority ∷ []

-- ---- of a rule

abbrev pub rule_text : TableKey
rule_text = optional (codes "text") (text Any)

abbrev pub rule_file : TableKey
rule_file = optional (codes "file") (text Any)

abbrev pub rule_keys : List TableKey
rule_keys = name_key ∷ rule_text ∷ rule_file ∷ []

-- ---- of a group

abbrev pub group_type : TableKey
group_type = required (codes "type") (one_of (codes "string" ∷ codes "ip" ∷ codes "integer" ∷ []))

abbrev pub rows : TableKey
rows = optional (codes "rows") (array 65536)

abbrev pub group_keys : List TableKey
group_keys = name_key ∷ group_type ∷ rows ∷ []
