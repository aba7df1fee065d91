-- The server connections that are heard are those that were made: all of them while the connection hasn't finished.
use Rattle.std.proofs.Common.{◌≡◌, refl, sym, ap, ◌∙◌, ℕ, suc, ◌+◌, ◌≤◌, List, [], ◌∷◌, ◌++◌, Bool, true, false, ◌||◌, true≢false, Option, Some, None, nat_eq, if◌then◌else◌, arith}
use Rattle.px_bytes.specs.declared.addr.Side.TheVariants.{Client, Server}
use Rattle.core_events.specs.declared.note.Note.{Note}
use Rattle.core_events.specs.declared.event_kind.EventKind.{EventKind}
use Rattle.core_events.specs.declared.event_kind.EventKind.TheVariants.{Accepts, Comes, Ticks}
use Rattle.core_events.specs.declared.event_kind.EventKind.TheVariants.{Turns, Runs, Marks}
use Rattle.core_events.specs.declared.input.Input.{Input}
use Rattle.core_events.specs.declared.input.Input.TheVariants.{Bytes, Ends, Resets, Connects, Takes}
use Rattle.conn_trace.specs.Heard.{SideHeard, Heard, hears_more, at_last, unless_late, brought_nothing}
use Rattle.conn_trace.specs.Heard.{brings_in, event_brings, accepts, marks, event_marks, brought}
use Rattle.conn_trace.specs.Heard.{hears}
use Rattle.conn_trace.specs.Tellings.{notes_about, finish_told}
use Rattle.core_events.specs.Kinds.{kind_of}
use Rattle.record_model.specs.Past.{Past, heard}
use Rattle.proxy_core.specs.Servers.{made, makes, servers_made}

pub last_made : (f : SideHeard → SideHeard) (cs : List (Option SideHeard)) → made (at_last f cs) ≡ made cs
last_made f [] = refl
last_made f (None ∷ more) = last_made f more
last_made f (Some s ∷ more) = ap suc (last_made f more)

last_unless : (late : Bool) (f : SideHeard → SideHeard) (cs : List (Option SideHeard)) → made (unless_late late f cs) ≡ made cs
last_unless true f cs = refl
last_unless false f cs = last_made f cs

pub joined_made : (cs ds : List (Option SideHeard)) → made (cs ++ ds) ≡ made cs + made ds
joined_made [] ds = omega arith
joined_made (None ∷ more) ds = joined_made more ds
joined_made (Some s ∷ more) ds = let k = joined_made more ds in omega (arith, k)

-- what an event marks makes none
record Same (h h' : Heard) : Type 0 where
  servers : made h'.connects ≡ made h.connects
  finished : h'.finished ≡ h.finished

same : (h : Heard) → Same h h
same h = record { servers = refl; finished = refl }

marks_same : (i : Input) (h : Heard) → Same h (marks i h)
marks_same (Bytes side bytes) h = same h
marks_same (Ends side) h = same h
marks_same (Connects answer) h = same h
marks_same (Resets Client) h = record { servers = refl; finished = refl }
marks_same (Resets Server) h = record { servers = last_unless h.late (λ s. record s { reset = true }) h.connects; finished = refl }
marks_same (Takes Client n) h = record { servers = refl; finished = refl }
marks_same (Takes Server n) h = record { servers = last_unless h.late (λ s. record s { took = s.took + n }) h.connects; finished = refl }

event_same : (c : ℕ) (v : EventKind) (h : Heard) → Same h (event_marks c v h)
event_same c (Accepts d vs from) h = by_number (nat_eq d c)
  where
    by_number : (b : Bool) → Same h (if b then accepts vs from h else h)
    by_number true = record { servers = refl; finished = refl }
    by_number false = same h
event_same c (Comes d i) h = by_number (nat_eq d c)
  where
    by_number : (b : Bool) → Same h (if b then marks i h else h)
    by_number true = marks_same i h
    by_number false = same h
event_same c (Ticks moment) h = same h
event_same c Turns h = same h
event_same c Runs h = same h
event_same c (Marks pool member up) h = same h

-- what it brings is what it makes
input_brings : (i : Input) (d c : ℕ) → made (event_brings c (Comes d i)).connects ≡ makes c (Comes d i)
input_brings (Connects true) d c = by_number (nat_eq d c)
  where
    by_number : (b : Bool) → made (if b then brings_in (Connects true) else brought_nothing).connects ≡ (if b then 1 else 0)
    by_number true = refl
    by_number false = refl
input_brings (Connects false) d c = by_number (nat_eq d c)
  where
    by_number : (b : Bool) → made (if b then brings_in (Connects false) else brought_nothing).connects ≡ 0
    by_number true = refl
    by_number false = refl
input_brings (Bytes Client bytes) d c = by_number (nat_eq d c)
  where
    by_number : (b : Bool) → made (if b then brings_in (Bytes Client bytes) else brought_nothing).connects ≡ 0
    by_number true = refl
    by_number false = refl
input_brings (Bytes Server bytes) d c = by_number (nat_eq d c)
  where
    by_number : (b : Bool) → made (if b then brings_in (Bytes Server bytes) else brought_nothing).connects ≡ 0
    by_number true = refl
    by_number false = refl
input_brings (Ends Client) d c = by_number (nat_eq d c)
  where
    by_number : (b : Bool) → made (if b then brings_in (Ends Client) else brought_nothing).connects ≡ 0
    by_number true = refl
    by_number false = refl
input_brings (Ends Server) d c = by_number (nat_eq d c)
  where
    by_number : (b : Bool) → made (if b then brings_in (Ends Server) else brought_nothing).connects ≡ 0
    by_number true = refl
    by_number false = refl
input_brings (Resets side) d c = by_number (nat_eq d c)
  where
    by_number : (b : Bool) → made (if b then brought_nothing else brought_nothing).connects ≡ 0
    by_number true = refl
    by_number false = refl
input_brings (Takes side n) d c = by_number (nat_eq d c)
  where
    by_number : (b : Bool) → made (if b then brought_nothing else brought_nothing).connects ≡ 0
    by_number true = refl
    by_number false = refl

pub event_makes : (c : ℕ) (v : EventKind) → made (event_brings c v).connects ≡ makes c v
event_makes c (Comes d i) = input_brings i d c
event_makes c (Accepts d vs from) = refl
event_makes c (Ticks moment) = refl
event_makes c Turns = refl
event_makes c Runs = refl
event_makes c (Marks pool member up) = refl

or_none : (a b : Bool) → (a || b) ≡ false → a ≡ false
or_none true b e = absurd (true≢false e)
or_none false b e = refl

-- it makes what it brings
pub made_more : (c : ℕ) (h : Heard) (v : EventKind) (group : List Note) → made (hears c h v group).connects ≡ made h.connects + made (brought c h v group).connects
made_more c h v group =
    let b = brought c h v group in
    joined_made (at_last (hears_more b.server) (event_marks c v h).connects) b.connects
    ∙ ap (λ n. n + made b.connects) (last_made (hears_more b.server) (event_marks c v h).connects ∙ (event_same c v h).servers)

-- so many were made
pub record HeardOf (n : ℕ) (h : Heard) : Type 0 where
  pub few : made h.connects ≤ n
  pub all : h.finished ≡ false → n ≡ made h.connects

heard_more : (c n : ℕ) (h : Heard) (v : EventKind) (group : List Note) → HeardOf n h → HeardOf (n + makes c v) (hears c h v group)
heard_more c n h v group k = record {
  few = (let few = k.few in let most = by_finish (h.finished || told) in omega (arith, few, most, counted));
  all = λ e. (let over : (h.finished || told) ≡ false = ap (λ b. b || told) (sym marked.finished) ∙ e in
      let some = k.all (or_none h.finished told over) in
      let all = ap (λ b. made (if b then brought_nothing else event_brings c v).connects) over ∙ event_makes c v in
      omega (arith, some, all, counted));
}
  where
    told : Bool
    told = finish_told (notes_about c group)

    marked : Same h (event_marks c v h)
    marked = event_same c v h

    counted : made (hears c h v group).connects ≡ made h.connects + made (brought c h v group).connects
    counted = made_more c h v group

    by_finish : (f : Bool) → made (if f then brought_nothing else event_brings c v).connects ≤ makes c v
    by_finish true = omega arith
    by_finish false = let e = event_makes c v in omega (arith, e)

pub heard_servers : (c : ℕ) (past : Past) → HeardOf (servers_made c past) (heard c past)
heard_servers c [] = record { few = omega arith; all = λ e. refl }
heard_servers c (x ∷ past) = heard_more c (servers_made c past) (heard c past) (kind_of x.event) x.group (heard_servers c past)
