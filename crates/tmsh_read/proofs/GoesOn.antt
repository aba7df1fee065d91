-- Whatever was read, some text of the grammar goes on with it.
use Rattle.std.proofs.Common.{◌≡◌, ℕ, Bool, true, false, List, [], ◌∷◌, Option, Some, inl, inr, refl, ap, ◌∙◌}
use Rattle.std.specs.Prelude.{codes, option_map, pos}
use Rattle.std.proofs.lemmas.Bool.{cases_Bool}
use Rattle.toml.specs.Data.{integer, string}
use Rattle.tmsh_read.proofs.Members.{has_it}
use Rattle.tmsh_read.proofs.Numbers.{one_is}
use Rattle.tmsh_read.specs.Grammar.{number_step, step, step_in}
use Rattle.tmsh_read.specs.Laws.{behind}
use Rattle.tmsh_read.specs.Reading.{may_end}
use Rattle.tmsh_read.specs.Sketch.{Sketch, closed, has, placed, stored, to}
use Rattle.tmsh_read.specs.declared.item.Item.{Item}
use Rattle.tmsh_read.specs.declared.item.Item.TheVariants as item
use Rattle.tmsh_read.specs.declared.next.Next.{Next}
use Rattle.tmsh_read.specs.declared.next.Next.TheVariants as next
use Rattle.tmsh_read.specs.declared.section.Block.{Block}
use Rattle.tmsh_read.specs.declared.section.Block.TheVariants.{Limits, Server, Pool, Group, Member, Row}
use Rattle.tmsh_read.specs.declared.section.Section.{Section}
use Rattle.tmsh_read.specs.declared.section.Section.TheVariants as section
use Rattle.tmsh_read.specs.declared.token.Token.{Token}
use Rattle.tmsh_read.specs.declared.token.Token.TheVariants.{Open, Close, Run, Braced}

-- tokens behind which the text may end
pub record Completes (s : Sketch) : Type 0 where
  pub more : List Token
  pub last : Sketch
  pub led : behind s more ≡ Some last
  pub ends : may_end last.next ≡ true

by : (n : Next) (s : Sketch) → s.next ≡ n → (t : Token) (then : Sketch) → step_in n s t ≡ Some then → Completes then → Completes s
by n s at t then e c =
    let stepped : step s t ≡ Some then = ap (λ m. step_in m s t) at ∙ e in
    record { more = t ∷ c.more; last = c.last; led = rw stepped c.led; ends = c.ends }

at_stanza : (s : Sketch) → may_end s.next ≡ true → Completes s
at_stanza s e = record { more = []; last = s; led = refl; ends = e }

-- ---- items

server_whole : (s : Sketch) → s.next ≡ next.Items Server → has s item.Listen ≡ true → Completes s
server_whole s at e = by (next.Items Server) s at Close (closed Server s) (rw e refl) (at_stanza (closed Server s) refl)

server_items : (s : Sketch) → s.next ≡ next.Items Server → Completes s
server_items s at = elim (cases_Bool (has s item.Listen)) [
  | inl e ↦ server_whole s at e
  | inr e ↦
      (let t = to (next.Value item.Listen) s in
      let u = stored item.Listen (string (codes "x")) t in
      by (next.Items Server) s at (Run (codes "destination")) t (rw e refl)
      (by (next.Value item.Listen) t refl (Run (codes "x")) u refl
      (server_whole u refl (has_it (codes "listen") (string (codes "x")) s.stanza))))
]

group_whole : (s : Sketch) → s.next ≡ next.Items Group → has s item.Kind ≡ true → Completes s
group_whole s at e = by (next.Items Group) s at Close (closed Group s) (rw e refl) (at_stanza (closed Group s) refl)

group_items : (s : Sketch) → s.next ≡ next.Items Group → Completes s
group_items s at = elim (cases_Bool (has s item.Kind)) [
  | inl e ↦ group_whole s at e
  | inr e ↦
      (let t = to (next.Value item.Kind) s in
      let u = stored item.Kind (string (codes "x")) t in
      by (next.Items Group) s at (Run (codes "type")) t (rw e refl)
      (by (next.Value item.Kind) t refl (Run (codes "x")) u refl
      (group_whole u refl (has_it (codes "type") (string (codes "x")) s.stanza))))
]

pool_items : (s : Sketch) → s.next ≡ next.Items Pool → Completes s
pool_items s at = by (next.Items Pool) s at Close _ refl (at_stanza _ refl)

members : (s : Sketch) → s.next ≡ next.Members → Completes s
members s at = by next.Members s at Close _ refl (pool_items _ refl)

rows : (s : Sketch) → s.next ≡ next.Rows → Completes s
rows s at = by next.Rows s at Close _ refl (group_items _ refl)

items : (b : Block) (s : Sketch) → s.next ≡ next.Items b → Completes s
items Limits s at = by (next.Items Limits) s at Close _ refl (at_stanza _ refl)
items Server s at = server_items s at
items Pool s at = pool_items s at
items Group s at = group_items s at
items Member s at = by (next.Items Member) s at Close _ refl (members _ refl)
items Row s at = by (next.Items Row) s at Close _ refl (rows _ refl)

opens : (b : Block) (s : Sketch) → s.next ≡ next.Opens b → Completes s
opens b s at = by (next.Opens b) s at Open _ refl (items b _ refl)

-- ---- values

http_end : (s : Sketch) → s.next ≡ next.HttpEnd → Completes s
http_end s at = by next.HttpEnd s at Close _ refl (items Server _ refl)

http : (s : Sketch) → s.next ≡ next.Http → Completes s
http s at = by next.Http s at (Run (codes "http")) _ refl (http_end _ refl)

names : (s : Sketch) → s.next ≡ next.Names → Completes s
names s at = by next.Names s at Close _ refl (items Server _ refl)

one : (i : Item) (s : Sketch) → number_step s i (codes "1") ≡ Some (stored i (integer (pos 1)) s)
one i s = ap (option_map (λ n. stored i (integer (pos n)) s)) one_is

value : (i : Item) (s : Sketch) → s.next ≡ next.Value i → Completes s
value item.Budget s at = by (next.Value item.Budget) s at (Run (codes "1")) _ (one item.Budget s) (items Limits _ refl)
value item.Connections s at = by (next.Value item.Connections) s at (Run (codes "1")) _ (one item.Connections s) (items Limits _ refl)
value item.Idle s at = by (next.Value item.Idle) s at (Run (codes "1")) _ (one item.Idle s) (items Limits _ refl)
value item.TableRows s at = by (next.Value item.TableRows) s at (Run (codes "1")) _ (one item.TableRows s) (items Limits _ refl)
value item.Listen s at = by (next.Value item.Listen) s at (Run (codes "x")) _ refl (items Server _ refl)
value item.Http s at = by (next.Value item.Http) s at Open _ refl (http _ refl)
value item.PoolName s at = by (next.Value item.PoolName) s at (Run (codes "x")) _ refl (items Server _ refl)
value item.Persist s at = by (next.Value item.Persist) s at (Run (codes "x")) _ refl (items Server _ refl)
value item.PersistTimeout s at = by (next.Value item.PersistTimeout) s at (Run (codes "1")) _ (one item.PersistTimeout s) (items Server _ refl)
value item.RuleNames s at = by (next.Value item.RuleNames) s at Open _ refl (names _ refl)
value item.Method s at = by (next.Value item.Method) s at (Run (codes "round-robin")) _ refl (items Pool _ refl)
value item.MinActive s at = by (next.Value item.MinActive) s at (Run (codes "1")) _ (one item.MinActive s) (items Pool _ refl)
value item.Members s at = by (next.Value item.Members) s at Open _ refl (members _ refl)
value item.Kind s at = by (next.Value item.Kind) s at (Run (codes "x")) _ refl (items Group _ refl)
value item.Rows s at = by (next.Value item.Rows) s at Open _ refl (rows _ refl)
value item.Ratio s at = by (next.Value item.Ratio) s at (Run (codes "1")) _ (one item.Ratio s) (items Member _ refl)
value item.Priority s at = by (next.Value item.Priority) s at (Run (codes "1")) _ (one item.Priority s) (items Member _ refl)
value item.Data s at = by (next.Value item.Data) s at (Run (codes "x")) _ refl (items Row _ refl)

-- ---- stanzas

text : (s : Sketch) → s.next ≡ next.Text → Completes s
text s at = by next.Text s at (Braced []) _ refl (at_stanza _ refl)

name : (section : Section) (s : Sketch) → s.next ≡ next.Name section → Completes s
name section.Server s at = by (next.Name section.Server) s at (Run (codes "x")) _ refl (opens Server _ refl)
name section.Pool s at = by (next.Name section.Pool) s at (Run (codes "x")) _ refl (opens Pool _ refl)
name section.Rule s at = by (next.Name section.Rule) s at (Run (codes "x")) _ refl (text _ refl)
name section.Group s at = by (next.Name section.Group) s at (Run (codes "x")) _ refl (opens Group _ refl)

completes_in : (n : Next) (s : Sketch) → s.next ≡ n → Completes s
completes_in next.Stanza s at = at_stanza s (ap may_end at)
completes_in next.Limits s at = by next.Limits s at (Run (codes "limits")) _ refl (opens Limits _ refl)
completes_in next.Section s at = by next.Section s at (Run (codes "pool")) _ refl (name section.Pool _ refl)
completes_in next.Internal s at = by next.Internal s at (Run (codes "internal")) _ refl (name section.Group _ refl)
completes_in (next.Name section) s at = name section s at
completes_in (next.Opens b) s at = opens b s at
completes_in (next.Items b) s at = items b s at
completes_in (next.Value i) s at = value i s at
completes_in next.Http s at = http s at
completes_in next.HttpEnd s at = http_end s at
completes_in next.Names s at = names s at
completes_in next.Members s at = members s at
completes_in next.Rows s at = rows s at
completes_in next.Text s at = text s at

pub completes : (s : Sketch) → Completes s
completes s = completes_in s.next s refl
