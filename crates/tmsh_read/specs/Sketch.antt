-- What was read of a text so far, and what each item, stanza, member and row adds to it.
use Rattle.std.specs.Prelude.{ℕ, pos, suc, Bool, true, false, List, codes, is_some}
use Rattle.toml.specs.Data.{Data, string, integer, array, table, Items, no_items, item, Members, no_members, push_item}
use Rattle.toml.specs.Data.{get_member}
use Rattle.toml.specs.View.{array_view, table_view}
use Rattle.tmsh_read.specs.Items.{block_of, key_of}
use Rattle.tmsh_read.specs.Stanzas.{after_name}
use Rattle.tmsh_read.specs.Tables.{with_member}
use Rattle.tmsh_read.specs.declared.draft.Draft.{Draft}
use Rattle.tmsh_read.specs.declared.item.Item.{Item}
use Rattle.tmsh_read.specs.declared.item.Item.TheVariants.{Listen, Kind}
use Rattle.tmsh_read.specs.declared.next.Next.{Next}
use Rattle.tmsh_read.specs.declared.next.Next.TheVariants as next
use Rattle.tmsh_read.specs.declared.section.Block.{Block}
use Rattle.tmsh_read.specs.declared.section.Block.TheVariants.{Limits, Server, Pool, Group, Member, Row}
use Rattle.tmsh_read.specs.declared.section.Section.{Section}

pub record Sketch : Type 0 where
  pub next : Next
  pub limited : Bool
  pub limits : Members
  pub servers : Items
  pub pools : Items
  pub rules : Items
  pub groups : Items
  pub stanza : Members
  pub entries : Items
  pub member : Members
  pub row : Items

-- that of the code
abbrev pub sketch : Draft → Sketch
sketch d = record {
  next = d.next;
  limited = d.limited;
  limits = table_view d.limits;
  servers = array_view d.servers;
  pools = array_view d.pools;
  rules = array_view d.rules;
  groups = array_view d.groups;
  stanza = table_view d.stanza;
  entries = array_view d.entries;
  member = table_view d.member;
  row = array_view d.row;
}

abbrev pub blank : Sketch
blank = record {
  next = next.Stanza;
  limited = false;
  limits = no_members;
  servers = no_items;
  pools = no_items;
  rules = no_items;
  groups = no_items;
  stanza = no_members;
  entries = no_items;
  member = no_members;
  row = no_items;
}

-- ---- items

-- a row has its key, and perhaps a value
abbrev pub has_value : Items → Bool
has_value no_items = false
has_value (item k no_items) = false
has_value (item k (item v ds)) = true

abbrev pub has_in : Block → List ℕ → Sketch → Bool
has_in Limits k s = is_some (get_member k s.limits)
has_in Server k s = is_some (get_member k s.stanza)
has_in Pool k s = is_some (get_member k s.stanza)
has_in Group k s = is_some (get_member k s.stanza)
has_in Member k s = is_some (get_member k s.member)
has_in Row k s = has_value s.row

abbrev pub has : Sketch → Item → Bool
has s i = has_in (block_of i) (key_of i) s

-- a virtual server has an address, and a data group a type
abbrev pub is_whole : Sketch → Block → Bool
is_whole s Server = has s Listen
is_whole s Group = has s Kind
is_whole s Limits = true
is_whole s Pool = true
is_whole s Member = true
is_whole s Row = true

abbrev pub placed_in : Block → List ℕ → Data → Sketch → Sketch
placed_in Limits k d s = record s { limits = with_member k d s.limits }
placed_in Server k d s = record s { stanza = with_member k d s.stanza }
placed_in Pool k d s = record s { stanza = with_member k d s.stanza }
placed_in Group k d s = record s { stanza = with_member k d s.stanza }
placed_in Member k d s = record s { member = with_member k d s.member }
placed_in Row k d s = record s { row = push_item s.row d }

abbrev pub placed : Item → Data → Sketch → Sketch
placed i d s = placed_in (block_of i) (key_of i) d s

abbrev pub to : Next → Sketch → Sketch
to n s = record s { next = n }

-- the value of an item, behind which further items may stand
abbrev pub stored : Item → Data → Sketch → Sketch
stored i d s = to (next.Items (block_of i)) (placed i d s)

abbrev pub stored_entries : Item → Sketch → Sketch
stored_entries i s = stored i (array s.entries) (record s { entries = no_items })

-- ---- stanzas, members and rows

abbrev pub begun : Section → List ℕ → Sketch → Sketch
begun section name s =
    to (after_name section)
    (record s { stanza = with_member (codes "name") (string name) no_members })

abbrev pub without_stanza : Sketch → Sketch
without_stanza s = to next.Stanza (record s { stanza = no_members })

abbrev pub closed_member : Sketch → Sketch
closed_member s =
    to next.Members
    (record s { member = no_members; entries = push_item s.entries (table s.member) })

abbrev pub closed_row : Sketch → Sketch
closed_row s =
    to next.Rows (record s { row = no_items; entries = push_item s.entries (array s.row) })

abbrev pub closed : Block → Sketch → Sketch
closed Limits s = to next.Stanza s
closed Server s = without_stanza (record s { servers = push_item s.servers (table s.stanza) })
closed Pool s = without_stanza (record s { pools = push_item s.pools (table s.stanza) })
closed Group s = without_stanza (record s { groups = push_item s.groups (table s.stanza) })
closed Member s = closed_member s
closed Row s = closed_row s

abbrev pub rule_table : List ℕ → Members → Members
rule_table text stanza = with_member (codes "text") (string text) stanza

abbrev pub closed_rule : List ℕ → Sketch → Sketch
closed_rule text s =
    without_stanza (record s { rules = push_item s.rules (table (rule_table text s.stanza)) })
