-- What the server connections of one connection took, by what was heard: of each by its number, and of the last.
use Rattle.std.proofs.Common.{◌≡◌, ◌⊎◌, inl, inr, refl, sym, ap, ◌∙◌, ℕ, zero, suc, ◌+◌, ◌-◌, ◌≤◌, List, [], ◌∷◌, ◌++◌, map, Bool, true, false, true≢false, if◌then◌else◌, Option, Some, None, nat_eq, arith}
use Rattle.std.specs.Prelude.{slice_get, unwrap_or}
use Rattle.px_bytes.specs.declared.addr.Side.TheVariants.{Client, Server}
use Rattle.core_events.specs.declared.note.Note.{Note}
use Rattle.conn_trace.specs.Gates.{untaken, taken_of}
use Rattle.core_events.specs.declared.event_kind.EventKind.TheVariants.{Comes}
use Rattle.core_events.specs.declared.input.Input.{Input}
use Rattle.core_events.specs.declared.input.Input.TheVariants.{Bytes, Ends, Resets, Connects, Takes}
use Rattle.conn_trace.specs.Heard.{SideHeard, Heard, taken_by, side_taken, servers_taken, has_made}
use Rattle.conn_trace.specs.Heard.{hears_by, hears_more, at_last, unless_late, answer, as_answer, Brought}
use Rattle.conn_trace.specs.Heard.{brought_nothing, brings_in, marks, event_brings, event_marks}
use Rattle.conn_trace.specs.Heard.{brought, hears}
use Rattle.conn_trace.specs.Further.{Coming}
use Rattle.proxy_core.specs.Scheduler.{last_took}
use Rattle.proxy_core.specs.Servers.{made, took_behind, took_of, last_reset}
use Rattle.proxy_core.proofs.ServerGone.{never}

-- ---- the last that was made

pub none_made : (cs : List (Option SideHeard)) → has_made cs ≡ false → made cs ≡ 0
none_made [] e = refl
none_made (None ∷ more) e = none_made more e
none_made (Some s ∷ more) e = absurd (true≢false e)

pub record Made (cs : List (Option SideHeard)) : Type 0 where
  pub before : ℕ
  pub is : made cs ≡ suc before

pub some_made : (cs : List (Option SideHeard)) → has_made cs ≡ true → Made cs
some_made [] e = never e
some_made (None ∷ more) e = let k = some_made more e in record { before = k.before; is = k.is }
some_made (Some s ∷ more) e = record { before = made more; is = refl }

pub made_as : (cs : List (Option SideHeard)) → made (map as_answer cs) ≡ made cs
made_as [] = refl
made_as (None ∷ more) = made_as more
made_as (Some s ∷ more) = ap suc (made_as more)

-- what was taken of the last, as traces count it
pub taken_last : (cs : List (Option SideHeard)) → taken_of (servers_taken cs) (made cs) ≡ taken_by (last_reset cs) (last_took cs)
taken_last [] = refl
taken_last (None ∷ more) = taken_last more
taken_last (Some s ∷ more) = by_made (has_made more) refl (taken_last more)
  where
    by_made : (b : Bool) → has_made more ≡ b → taken_of (servers_taken more) (made more) ≡ taken_by (last_reset more) (last_took more)
        → taken_of (side_taken s ∷ servers_taken more) (suc (made more)) ≡ taken_by (if b then last_reset more else s.reset) (if b then last_took more else s.took)
    by_made true e h =
        let k = some_made more e in
        ap (λ n. taken_of (side_taken s ∷ servers_taken more) (suc n)) k.is ∙ sym (ap (taken_of (servers_taken more)) k.is) ∙ h
    by_made false e h = ap (λ n. taken_of (side_taken s ∷ servers_taken more) (suc n)) (none_made more e)

pub took_last : (cs : List (Option SideHeard)) → took_of cs (made cs) ≡ last_took cs
took_last [] = refl
took_last (None ∷ more) = skip (made more) ∙ took_last more
  where
    skip : (n : ℕ) → took_of (None ∷ more) n ≡ took_of more n
    skip zero = refl
    skip (suc n) = refl
took_last (Some s ∷ more) = by_made (has_made more) refl (took_last more)
  where
    by_made : (b : Bool) → has_made more ≡ b → took_of more (made more) ≡ last_took more → took_behind (made more) (Some s ∷ more) ≡ (if b then last_took more else s.took)
    by_made true e h = let k = some_made more e in ap (λ n. took_behind n (Some s ∷ more)) k.is ∙ sym (ap (took_of more) k.is) ∙ h
    by_made false e h = ap (λ n. took_behind n (Some s ∷ more)) (none_made more e)

-- what isn't taken of so many bytes is what isn't counted of them, at most
untaken_most : (b : Bool) (n t : ℕ) → untaken n (taken_by b t) ≤ n - t
untaken_most true n t = omega arith
untaken_most false n t = omega arith

most_behind : (cs : List (Option SideHeard)) (k n : ℕ) → untaken n (unwrap_or (slice_get (servers_taken cs) k) (Some 0)) ≤ n - took_behind k cs
most_behind [] k n = omega arith
most_behind (None ∷ more) k n = most_behind more k n
most_behind (Some s ∷ more) zero n = untaken_most s.reset n s.took
most_behind (Some s ∷ more) (suc k) n = most_behind more k n

pub most_untaken : (cs : List (Option SideHeard)) (k n : ℕ) → untaken n (taken_of (servers_taken cs) k) ≤ n - took_of cs k
most_untaken cs zero n = omega arith
most_untaken cs (suc k) n = most_behind cs k n

-- ---- what an input changes

-- nothing, or what the last one took
pub took_more : (n k : ℕ) (cs : List (Option SideHeard)) → (took_behind k (at_last (λ s. record s { took = s.took + n }) cs) ≡ took_behind k cs)
    ⊎ ((suc k ≡ made cs) × (took_behind k (at_last (λ s. record s { took = s.took + n }) cs) ≡ took_behind k cs + n))
took_more n k [] = inl refl
took_more n k (None ∷ more) = took_more n k more
took_more n zero (Some s ∷ more) = by_made (has_made more) refl
  where
    by_made : (b : Bool) → has_made more ≡ b → ((if b then s else record s { took = s.took + n }).took ≡ s.took) ⊎ ((1 ≡ suc (made more)) × ((if b then s else record s { took = s.took + n }).took ≡ s.took + n))
    by_made true e = inl refl
    by_made false e = inr (ap suc (sym (none_made more e)), refl)
took_more n (suc k) (Some s ∷ more) = by_rest (took_more n k more)
  where
    by_rest : (took_behind k (at_last (λ s. record s { took = s.took + n }) more) ≡ took_behind k more) ⊎ ((suc k ≡ made more) × (took_behind k (at_last (λ s. record s { took = s.took + n }) more) ≡ took_behind k more + n))
        → (took_behind k (at_last (λ s. record s { took = s.took + n }) more) ≡ took_behind k more) ⊎ ((suc (suc k) ≡ suc (made more)) × (took_behind k (at_last (λ s. record s { took = s.took + n }) more) ≡ took_behind k more + n))
    by_rest (inl e) = inl e
    by_rest (inr (e, f)) = inr (ap suc e, f)

took_same : (f : SideHeard → SideHeard) → ((s : SideHeard) → (f s).took ≡ s.took) → (k : ℕ) (cs : List (Option SideHeard)) → took_behind k (at_last f cs) ≡ took_behind k cs
took_same f same k [] = refl
took_same f same k (None ∷ more) = took_same f same k more
took_same f same zero (Some s ∷ more) = by_made (has_made more)
  where
    by_made : (b : Bool) → (if b then s else f s).took ≡ s.took
    by_made true = refl
    by_made false = same s
took_same f same (suc k) (Some s ∷ more) = took_same f same k more

took_answered : (b : Bool) (k : ℕ) (cs : List (Option SideHeard)) → took_behind k (cs ++ answer b ∷ []) ≡ took_behind k cs
took_answered true zero [] = refl
took_answered true (suc k) [] = refl
took_answered false k [] = refl
took_answered b k (None ∷ more) = took_answered b k more
took_answered b zero (Some s ∷ more) = refl
took_answered b (suc k) (Some s ∷ more) = took_answered b k more

took_nothing : (k : ℕ) (cs : List (Option SideHeard)) → took_behind k (cs ++ []) ≡ took_behind k cs
took_nothing k [] = refl
took_nothing k (None ∷ more) = took_nothing k more
took_nothing zero (Some s ∷ more) = refl
took_nothing (suc k) (Some s ∷ more) = took_nothing k more

heard_took : (c : Coming) (s : SideHeard) → (hears_more c s).took ≡ s.took
heard_took c s = by_end s.ended
  where
    by_end : (b : Bool) → (hears_by b c s).took ≡ s.took
    by_end true = refl
    by_end false = refl

-- what comes with an event was taken by none
abbrev Fresh : Brought → Type 0
Fresh b = (k : ℕ) (cs : List (Option SideHeard)) → took_behind k (cs ++ b.connects) ≡ took_behind k cs

fresh_in : (input : Input) → Fresh (brings_in input)
fresh_in (Bytes Client bytes) = took_nothing
fresh_in (Bytes Server bytes) = took_nothing
fresh_in (Ends Client) = took_nothing
fresh_in (Ends Server) = took_nothing
fresh_in (Connects made) = took_answered made
fresh_in other = took_nothing

fresh_brought : (c : ℕ) (h : Heard) (input : Input) (group : List Note) (b : Bool) → Fresh (if b then brought_nothing else event_brings c (Comes c input))
fresh_brought c h input group true = took_nothing
fresh_brought c h input group false = by_same (nat_eq c c)
  where
    by_same : (b : Bool) → Fresh (if b then brings_in input else brought_nothing)
    by_same true = fresh_in input
    by_same false = took_nothing

-- how many bytes more the last server took
abbrev pub more_of : Input → ℕ
more_of (Takes Server n) = n
more_of other = 0

abbrev pub TookBy : ℕ → ℕ → List (Option SideHeard) → List (Option SideHeard) → Type 0
TookBy n k old new = (took_behind k new ≡ took_behind k old) ⊎ ((suc k ≡ made old) × (took_behind k new ≡ took_behind k old + n))

same_unless : (late : Bool) (f : SideHeard → SideHeard) → ((s : SideHeard) → (f s).took ≡ s.took) → (k : ℕ) (cs : List (Option SideHeard)) → took_behind k (unless_late late f cs) ≡ took_behind k cs
same_unless true f same k cs = refl
same_unless false f same k cs = took_same f same k cs

more_unless : (late : Bool) (n k : ℕ) (cs : List (Option SideHeard)) → TookBy n k cs (unless_late late (λ s. record s { took = s.took + n }) cs)
more_unless true n k cs = inl refl
more_unless false n k cs = took_more n k cs

marks_took : (input : Input) (h : Heard) (k : ℕ) → TookBy (more_of input) k h.connects (marks input h).connects
marks_took (Bytes side bytes) h k = inl refl
marks_took (Ends side) h k = inl refl
marks_took (Connects made) h k = inl refl
marks_took (Resets Client) h k = inl refl
marks_took (Resets Server) h k = inl (same_unless h.late (λ s. record s { reset = true }) (λ s. refl) k h.connects)
marks_took (Takes Client n) h k = inl refl
marks_took (Takes Server n) h k = more_unless h.late n k h.connects

event_took : (c : ℕ) (h : Heard) (input : Input) (k : ℕ) (b : Bool) → TookBy (more_of input) k h.connects (if b then marks input h else h).connects
event_took c h input k true = marks_took input h k
event_took c h input k false = inl refl

-- of each server connection as much was taken as before, but of the last what it took now
pub come_took : (c : ℕ) (h : Heard) (input : Input) (group : List Note) (k : ℕ) → TookBy (more_of input) k h.connects (hears c h (Comes c input) group).connects
come_took c h input group k = by_marks (event_took c h input k (nat_eq c c))
  where
    marked : List (Option SideHeard)
    marked = (event_marks c (Comes c input) h).connects

    b : Brought
    b = brought c h (Comes c input) group

    same : took_behind k (at_last (hears_more b.server) marked ++ b.connects) ≡ took_behind k marked
    same = fresh_brought c h input group _ k (at_last (hears_more b.server) marked) ∙ took_same (hears_more b.server) (heard_took b.server) k marked

    by_marks : TookBy (more_of input) k h.connects marked → TookBy (more_of input) k h.connects (at_last (hears_more b.server) marked ++ b.connects)
    by_marks (inl e) = inl (same ∙ e)
    by_marks (inr (e, f)) = inr (e, same ∙ f)
