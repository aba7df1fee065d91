-- What was heard of the sides of a connection only rises, event by event.
use Rattle.std.proofs.Common.{◌≡◌, ◌⊎◌, ℕ, suc, ◌+◌, ◌≤◌, List, [], ◌∷◌, ◌++◌, Bool, true, false, ◌||◌, Option, Some, None, nat_eq, if◌then◌else◌}
use Rattle.std.proofs.Common.{inl, inr, refl, ap, sym, ◌∙◌, arith, append-nil}
use Rattle.px_bytes.specs.declared.addr.Side.TheVariants.{Client, Server}
use Rattle.core_events.specs.declared.event_kind.EventKind.{EventKind}
use Rattle.core_events.specs.declared.event_kind.EventKind.TheVariants.{Accepts, Comes, Ticks}
use Rattle.core_events.specs.declared.event_kind.EventKind.TheVariants.{Turns, Runs, Marks}
use Rattle.core_events.specs.declared.input.Input.{Input}
use Rattle.core_events.specs.declared.input.Input.TheVariants.{Bytes, Ends, Resets, Connects, Takes}
use Rattle.core_events.specs.declared.note.Note.{Note}
use Rattle.conn_trace.specs.Heard.{Heard, SideHeard, accepts, at_last, brings_in, brought, brought_nothing, event_brings, event_marks, has_made, hears, hears_by, hears_more, marks, unless_late}
use Rattle.conn_trace.specs.Further.{Coming}
use Rattle.conn_trace.specs.Tellings.{finish_told, notes_about}
use Rattle.proxy_core.specs.Scheduler.{last_took}
use Rattle.proxy_core.specs.Servers.{last_reset, made}
use Rattle.proxy_core.proofs.HeardServers.{joined_made}
use Rattle.proxy_core.proofs.Meeting.{made_last, took_refused}

reset_same : (b : Bool) (k : Coming) (s : SideHeard) → (hears_by b k s).reset ≡ s.reset
reset_same true k s = refl
reset_same false k s = refl

not_reset : (b : Bool) (x h : Heard) → (x.client.reset ≡ false → h.client.reset ≡ false) → (if b then x else h).client.reset ≡ false → h.client.reset ≡ false
not_reset true x h less e = less e
not_reset false x h less e = e

client_reset : (c : ℕ) (v : EventKind) (h : Heard) → (event_marks c v h).client.reset ≡ false → h.client.reset ≡ false
client_reset c (Accepts d vs from) h e = not_reset (nat_eq d c) (accepts vs from h) h (λ x. x) e
client_reset c (Comes d (Bytes side bytes)) h e = not_reset (nat_eq d c) (marks (Bytes side bytes) h) h (λ x. x) e
client_reset c (Comes d (Ends side)) h e = not_reset (nat_eq d c) (marks (Ends side) h) h (λ x. x) e
client_reset c (Comes d (Resets Client)) h e = not_reset (nat_eq d c) (marks (Resets Client) h) h (λ x. cc) e
client_reset c (Comes d (Resets Server)) h e = not_reset (nat_eq d c) (marks (Resets Server) h) h (λ x. x) e
client_reset c (Comes d (Connects made)) h e = not_reset (nat_eq d c) (marks (Connects made) h) h (λ x. x) e
client_reset c (Comes d (Takes Client n)) h e = not_reset (nat_eq d c) (marks (Takes Client n) h) h (λ x. x) e
client_reset c (Comes d (Takes Server n)) h e = not_reset (nat_eq d c) (marks (Takes Server n) h) h (λ x. x) e
client_reset c (Ticks moment) h e = e
client_reset c Turns h e = e
client_reset c Runs h e = e
client_reset c (Marks pool member up) h e = e

pub heard_client_reset : (c : ℕ) (h : Heard) (v : EventKind) (group : List Note) → (hears c h v group).client.reset ≡ false → h.client.reset ≡ false
heard_client_reset c h v group e =
    client_reset c v h (sym (reset_same (event_marks c v h).client.ended (brought c h v group).client (event_marks c v h).client) ∙ e)

-- of the last server connection: what it was told to have taken, and that it wasn't reset
pub record Risen (old new : List (Option SideHeard)) : Type 0 where
  pub took : last_took old ≤ last_took new
  pub reset : last_reset new ≡ false → last_reset old ≡ false
  pub same : made new ≡ made old

risen_same : (old new : List (Option SideHeard)) → new ≡ old → Risen old new
risen_same old new e = let t = ap last_took e in record { took = omega (arith, t); reset = λ r. sym (ap last_reset e) ∙ r; same = ap made e }

risen_then : (old mid new : List (Option SideHeard)) → Risen old mid → Risen mid new → Risen old new
risen_then old mid new p q = let x = p.took in let y = q.took in record { took = omega (arith, x, y); reset = λ r. p.reset (q.reset r); same = q.same ∙ p.same }

last_risen : (f : SideHeard → SideHeard) → ((s : SideHeard) → s.took ≤ (f s).took) → ((s : SideHeard) → (f s).reset ≡ false → s.reset ≡ false)
    → (cs : List (Option SideHeard)) → Risen cs (at_last f cs)
last_risen f took reset [] = risen_same [] [] refl
last_risen f took reset (None ∷ more) = let r = last_risen f took reset more in record { took = r.took; reset = r.reset; same = r.same }
last_risen f took reset (Some s ∷ more) =
    by (has_made more) refl (last_risen f took reset more)
  where
    by : (b : Bool) → has_made more ≡ b → Risen more (at_last f more) → Risen (Some s ∷ more) (Some (if has_made more then s else f s) ∷ at_last f more)
    by true made r =
        let x = ap (λ b. if b then last_took more else s.took) made in
        let y = ap (λ b. if b then last_took (at_last f more) else (if has_made more then s else f s).took) (made_last f more ∙ made) in
        let z = r.took in
        record {
          took = omega (arith, x, y, z);
          reset = λ e. ap (λ b. if b then last_reset more else s.reset) made
              ∙ r.reset (sym (ap (λ b. if b then last_reset (at_last f more) else (if has_made more then s else f s).reset) (made_last f more ∙ made)) ∙ e);
          same = ap suc r.same;
        }
    by false none r =
        let x = ap (λ b. if b then last_took more else s.took) none in
        let y = ap (λ b. if b then last_took (at_last f more) else (if has_made more then s else f s).took) (made_last f more ∙ none)
        ∙ ap (λ b. (if b then s else f s).took) none in
        let z = took s in
        record {
          took = omega (arith, x, y, z);
          reset = λ e. ap (λ b. if b then last_reset more else s.reset) none
              ∙ reset s (sym (ap (λ b. if b then last_reset (at_last f more) else (if has_made more then s else f s).reset) (made_last f more ∙ none)
              ∙ ap (λ b. (if b then s else f s).reset) none) ∙ e);
          same = ap suc r.same;
        }

same_more : (n : ℕ) → n ≤ n
same_more n = omega arith

plus_more : (n k : ℕ) → n ≤ n + k
plus_more n k = omega arith

unless_risen : (late : Bool) (f : SideHeard → SideHeard) → ((s : SideHeard) → s.took ≤ (f s).took) → ((s : SideHeard) → (f s).reset ≡ false → s.reset ≡ false)
    → (cs : List (Option SideHeard)) → Risen cs (unless_late late f cs)
unless_risen true f took reset cs = risen_same cs cs refl
unless_risen false f took reset cs = last_risen f took reset cs

marks_risen : (i : Input) (h : Heard) → Risen h.connects (marks i h).connects
marks_risen (Bytes side bytes) h = risen_same h.connects h.connects refl
marks_risen (Ends side) h = risen_same h.connects h.connects refl
marks_risen (Resets Client) h = risen_same h.connects h.connects refl
marks_risen (Resets Server) h = unless_risen h.late (λ s. record s { reset = true }) (λ s. same_more s.took) (λ s e. cc) h.connects
marks_risen (Connects made) h = risen_same h.connects h.connects refl
marks_risen (Takes Client n) h = risen_same h.connects h.connects refl
marks_risen (Takes Server n) h = unless_risen h.late (λ s. record s { took = s.took + n }) (λ s. plus_more s.took n) (λ s e. e) h.connects

marks_by : (b : Bool) (i : Input) (h : Heard) → Risen h.connects (if b then marks i h else h).connects
marks_by true i h = marks_risen i h
marks_by false i h = risen_same h.connects h.connects refl

either_same : (b : Bool) (x h : Heard) → x.connects ≡ h.connects → Risen h.connects (if b then x else h).connects
either_same true x h e = risen_same h.connects x.connects e
either_same false x h e = risen_same h.connects h.connects refl

event_risen : (c : ℕ) (v : EventKind) (h : Heard) → Risen h.connects (event_marks c v h).connects
event_risen c (Accepts d vs from) h = either_same (nat_eq d c) (accepts vs from h) h refl
event_risen c (Comes d i) h = marks_by (nat_eq d c) i h
event_risen c (Ticks moment) h = risen_same h.connects h.connects refl
event_risen c Turns h = risen_same h.connects h.connects refl
event_risen c Runs h = risen_same h.connects h.connects refl
event_risen c (Marks pool member up) h = risen_same h.connects h.connects refl

-- no answer of a server is new, or that there is none
abbrev pub FewNew : List (Option SideHeard) → Type 0
FewNew new = (new ≡ []) ⊎ (new ≡ None ∷ [])

made_refused : (cs : List (Option SideHeard)) → has_made (cs ++ None ∷ []) ≡ has_made cs
made_refused [] = refl
made_refused (None ∷ more) = made_refused more
made_refused (Some s ∷ more) = refl

reset_refused : (cs : List (Option SideHeard)) → last_reset (cs ++ None ∷ []) ≡ last_reset cs
reset_refused [] = refl
reset_refused (None ∷ more) = reset_refused more
reset_refused (Some s ∷ more) =
    ap (λ m. if m then last_reset (more ++ None ∷ []) else s.reset) (made_refused more) ∙ ap (λ r. if has_made more then r else s.reset) (reset_refused more)

new_risen : (cs new : List (Option SideHeard)) → FewNew new → Risen cs (cs ++ new)
new_risen cs new (inl e) = risen_same cs (cs ++ new) (ap (λ (l : List (Option SideHeard)). cs ++ l) e ∙ append-nil cs)
new_risen cs new (inr e) =
    let t = ap (λ (l : List (Option SideHeard)). last_took (cs ++ l)) e ∙ took_refused cs in record {
      took = omega (arith, t);
      reset = λ r. sym (ap (λ (l : List (Option SideHeard)). last_reset (cs ++ l)) e ∙ reset_refused cs) ∙ r;
      same = (let j = ap (λ (l : List (Option SideHeard)). made (cs ++ l)) e ∙ joined_made cs (None ∷ []) in omega (arith, j));
    }

-- a server isn't answered
abbrev pub NoServer : EventKind → ℕ → Type 0
NoServer (Comes d (Connects true)) c = nat_eq d c ≡ false
NoServer v c = Unit {0}

pub brings_few : (i : Input) (d c : ℕ) → NoServer (Comes d i) c → (b : Bool) → nat_eq d c ≡ b → FewNew (if b then brings_in i else brought_nothing).connects
brings_few i d c clash false is = inl refl
brings_few (Bytes Client bytes) d c clash true is = inl refl
brings_few (Bytes Server bytes) d c clash true is = inl refl
brings_few (Ends Client) d c clash true is = inl refl
brings_few (Ends Server) d c clash true is = inl refl
brings_few (Resets side) d c clash true is = inl refl
brings_few (Takes side n) d c clash true is = inl refl
brings_few (Connects false) d c clash true is = inr refl
brings_few (Connects true) d c clash true is = let e : true ≡ false = sym is ∙ clash in cc

event_few : (c : ℕ) (v : EventKind) → NoServer v c → FewNew (event_brings c v).connects
event_few c (Accepts d vs from) clash = inl refl
event_few c (Comes d i) clash = brings_few i d c clash (nat_eq d c) refl
event_few c (Ticks moment) clash = inl refl
event_few c Turns clash = inl refl
event_few c Runs clash = inl refl
event_few c (Marks pool member up) clash = inl refl

pub brought_few : (b : Bool) (c : ℕ) (v : EventKind) → NoServer v c → FewNew (if b then brought_nothing else event_brings c v).connects
brought_few true c v clash = inl refl
brought_few false c v clash = event_few c v clash

pub heard_risen : (c : ℕ) (h : Heard) (v : EventKind) (group : List Note) → NoServer v c → Risen h.connects (hears c h v group).connects
heard_risen c h v group clash =
    let b = brought c h v group in
    let marked = event_marks c v h in
    let kept = last_risen (hears_more b.server) (λ s. told_took b.server s) (λ s e. sym (reset_same s.ended b.server s) ∙ e) marked.connects in
    risen_then h.connects marked.connects _ (event_risen c v h)
    (risen_then marked.connects (at_last (hears_more b.server) marked.connects) _ kept
    (new_risen (at_last (hears_more b.server) marked.connects) b.connects (brought_few (h.finished || finish_told (notes_about c group)) c v clash)))
  where
    told_took : (k : Coming) (s : SideHeard) → s.took ≤ (hears_more k s).took
    told_took k s = by s.ended
      where
        by : (b : Bool) → s.took ≤ (hears_by b k s).took
        by true = same_more s.took
        by false = same_more s.took
