-- The grammar: which tokens may stand behind what was read, and what each adds to it. Stanzas and
-- items stand in any order; a text is one of the grammar where its end may stand.
--
--     sys limits { budget N connections N idle N rows N }
--     ltm virtual NAME { destination ADDR profiles { http } pool NAME persist KIND
--         persist-timeout N rules { NAME .. } }
--     ltm pool NAME { load-balancing-mode round-robin|ratio-member min-active-members N
--         members { ADDR { ratio N priority-group N } .. } }
--     ltm rule NAME {TEXT}
--     ltm data-group internal NAME { type KIND records { KEY { data VALUE } .. } }
use Rattle.std.specs.Prelude.{ℕ, pos, Bool, true, false, not, ◌&&◌, List, codes, Option, Some, None}
use Rattle.std.specs.Prelude.{option_map, if◌then◌else◌}
use Rattle.std.specs.Str.{bytes_eq}
use Rattle.toml.specs.Data.{Data, string, integer, boolean, push_item}
use Rattle.tmsh_read.specs.Items.{item_of, method, number, shape_of}
use Rattle.tmsh_read.specs.Sketch.{Sketch, begun, closed, closed_rule, has, is_whole, stored, stored_entries, to}
use Rattle.tmsh_read.specs.Stanzas.{next_after}
use Rattle.tmsh_read.specs.Tables.{with_member}
use Rattle.tmsh_read.specs.declared.item.Item.{Item}
use Rattle.tmsh_read.specs.declared.item.Item.TheVariants as item
use Rattle.tmsh_read.specs.declared.next.Next.{Next}
use Rattle.tmsh_read.specs.declared.next.Next.TheVariants as next
use Rattle.tmsh_read.specs.declared.section.Block.{Block}
use Rattle.tmsh_read.specs.declared.section.Block.TheVariants.{Member, Row}
use Rattle.tmsh_read.specs.declared.section.Section.{Section}
use Rattle.tmsh_read.specs.declared.shape.Shape.{Shape}
use Rattle.tmsh_read.specs.declared.shape.Shape.TheVariants as shape
use Rattle.tmsh_read.specs.declared.token.Token.{Token}
use Rattle.tmsh_read.specs.declared.token.Token.TheVariants.{Open, Close, Run, Quoted, Braced, End, Broken}

-- what was read, where the token may stand there
abbrev pub came : Bool → Sketch → Option Sketch
came true s = Some s
came false s = None

-- the text of a run or of a quoted token
abbrev pub word_of : Token → Option (List ℕ)
word_of (Run w) = Some w
word_of (Quoted w) = Some w
word_of _ = None

-- ---- stanzas

-- limits stand there once at most
abbrev pub stanza_word : Sketch → List ℕ → Option Sketch
stanza_word s w =
    if bytes_eq w (codes "ltm") then Some (to next.Section s)
    else (if bytes_eq w (codes "sys") && not s.limited
    then Some (to next.Limits (record s { limited = true })) else None)

abbrev pub stanza_step : Sketch → Token → Option Sketch
stanza_step s (Run w) = stanza_word s w
stanza_step s _ = None

abbrev pub name_step : Sketch → Section → Option (List ℕ) → Option Sketch
name_step s section name = option_map (λ n. begun section n s) name

abbrev pub text_step : Sketch → Token → Option Sketch
text_step s (Braced text) = Some (closed_rule text s)
text_step s _ = None

abbrev pub plain_step : Sketch → Option Next → Option Sketch
plain_step s n = option_map (λ m. to m s) n

-- ---- items

-- an item stands there once at most
abbrev pub keyword_step : Sketch → Option Item → Option Sketch
keyword_step s None = None
keyword_step s (Some i) = if has s i then None else Some (to (next.Value i) s)

abbrev pub item_step : Sketch → Block → Token → Option Sketch
item_step s b (Run w) = keyword_step s (item_of b w)
item_step s b Close = if is_whole s b then Some (closed b s) else None
item_step s b _ = None

abbrev pub number_step : Sketch → Item → List ℕ → Option Sketch
number_step s i w = option_map (λ n. stored i (integer (pos n)) s) (number w)

abbrev pub method_step : Sketch → Item → List ℕ → Option Sketch
method_step s i w = option_map (λ m. stored i (string m) s) (method w)

abbrev pub word_step : Sketch → Item → Option (List ℕ) → Option Sketch
word_step s i w = option_map (λ t. stored i (string t) s) w

abbrev pub opens_step : Sketch → Next → Token → Option Sketch
opens_step s n Open = Some (to n s)
opens_step s n _ = None

abbrev pub shape_step : Sketch → Item → Shape → Token → Option Sketch
shape_step s i (shape.Opens n) t = opens_step s n t
shape_step s i shape.Word t = word_step s i (word_of t)
shape_step s i shape.Number (Run w) = number_step s i w
shape_step s i shape.Number _ = None
shape_step s i shape.Method (Run w) = method_step s i w
shape_step s i shape.Method _ = None

abbrev pub value_step : Sketch → Item → Token → Option Sketch
value_step s i t = shape_step s i (shape_of i) t

-- ---- what stands between the braces of an item

abbrev pub http_end_step : Sketch → Token → Option Sketch
http_end_step s Close = Some (stored item.Http (boolean true) s)
http_end_step s _ = None

abbrev pub names_word : Sketch → Option (List ℕ) → Option Sketch
names_word s w = option_map (λ t. record s { entries = push_item s.entries (string t) }) w

abbrev pub names_step : Sketch → Token → Option Sketch
names_step s Close = Some (stored_entries item.RuleNames s)
names_step s t = names_word s (word_of t)

abbrev pub member_named : Sketch → List ℕ → Sketch
member_named s addr =
    to (next.Opens Member) (record s { member = with_member (codes "addr") (string addr) s.member })

abbrev pub members_step : Sketch → Token → Option Sketch
members_step s Close = Some (stored_entries item.Members s)
members_step s t = option_map (member_named s) (word_of t)

abbrev pub row_keyed : Sketch → List ℕ → Sketch
row_keyed s key = to (next.Opens Row) (record s { row = push_item s.row (string key) })

abbrev pub rows_step : Sketch → Token → Option Sketch
rows_step s Close = Some (stored_entries item.Rows s)
rows_step s t = option_map (row_keyed s) (word_of t)

-- ---- a token

abbrev pub step_in : Next → Sketch → Token → Option Sketch
step_in next.Stanza s t = stanza_step s t
step_in (next.Name section) s t = name_step s section (word_of t)
step_in (next.Items b) s t = item_step s b t
step_in (next.Value i) s t = value_step s i t
step_in next.HttpEnd s t = http_end_step s t
step_in next.Names s t = names_step s t
step_in next.Members s t = members_step s t
step_in next.Rows s t = rows_step s t
step_in next.Text s t = text_step s t
step_in n s t = plain_step s (next_after n t)

-- none where the token may not stand here
abbrev pub step : Sketch → Token → Option Sketch
step s t = step_in s.next s t
