-- The keys of a monitors' file: what stands there, what is meant where nothing does, and the ranges.
use Rattle.std.specs.Prelude.{ℕ, Bool, true, false, List, [], ◌∷◌, codes, ◌^◌, ◌-◌}
use Rattle.pool_monitor.specs.declared.key.Kind.{Kind}
use Rattle.pool_monitor.specs.declared.key.Kind.TheVariants as code
use Rattle.pool_monitor.specs.declared.key.Key.{Key}

pub data KeyKind : Type 0 where
  whole : (low high usual : ℕ) → KeyKind
  text : (least most : ℕ) → KeyKind
  probing : KeyKind
  array : KeyKind

pub record TableKey : Type 0 where
  pub name : List ℕ
  pub required : Bool
  pub kind : KeyKind

-- ---- as the code has them

abbrev pub kind_view : Kind → KeyKind
kind_view (code.Whole low high usual) = whole low high usual
kind_view (code.Text least most) = text least most
kind_view code.Probing = probing
kind_view code.Array = array

abbrev pub key_view : Key → TableKey
key_view k = record { name = k.name.now; required = k.required; kind = kind_view k.kind }

-- ---- the keys

abbrev pub key_of : List ℕ → Bool → KeyKind → TableKey
key_of name required kind = record { name = name; required = required; kind = kind }

abbrev pub version_key : TableKey
version_key = key_of (codes "version") true (whole 1 1 1)

abbrev pub monitors_key : TableKey
monitors_key = key_of (codes "monitor") false array

-- the pool whose members are probed
abbrev pub pool_key : TableKey
pool_key = key_of (codes "pool") true (text 0 (2 ^ 64 - 1))

-- by TCP alone or by HTTP
abbrev pub kind_key : TableKey
kind_key = key_of (codes "kind") true probing

-- seconds
abbrev pub interval_key : TableKey
interval_key = key_of (codes "interval") false (whole 1 3600 5)

abbrev pub timeout_key : TableKey
timeout_key = key_of (codes "timeout") false (whole 1 86400 16)

-- bytes; both are required where it is probed by HTTP, and there are none where by TCP
abbrev pub send_key : Bool → TableKey
send_key required = key_of (codes "send") required (text 1 4096)

abbrev pub recv_key : Bool → TableKey
recv_key required = key_of (codes "recv") required (text 1 1024)

abbrev pub top_names : List (List ℕ)
top_names = codes "version" ∷ codes "monitor" ∷ []

abbrev pub item_names : List (List ℕ)
item_names =
    codes "pool" ∷ codes "kind" ∷ codes "interval" ∷ codes "timeout" ∷ codes "send" ∷ codes "recv" ∷ []
