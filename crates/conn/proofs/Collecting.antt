-- Before there is a server the client's bytes are collected.
use Rattle.std.proofs.Common.{◌≡◌, refl, sym, ap, subst, ◌∙◌, ℕ, List, [], ◌∷◌, ◌++◌, length, Bool, true, false, not, nat_le, Option, Some, None, if◌then◌else◌}
use Rattle.std.proofs.lemmas.Bool.{or_right}
use Rattle.px_bytes.specs.declared.addr.Side.TheVariants.{Client}
use Rattle.irule_net.specs.declared.state.Asks.{Asks}
use Rattle.irule_net.specs.declared.state.Asks.TheVariants.{NotAsked, Stated}
use Rattle.conn_trace.specs.Gates.{TakenCounts}
use Rattle.conn_trace.specs.Item.{Choice, Fires}
use Rattle.conn_trace.specs.Relay.{behind_fires, collect_act, meets, ready, Firing, Resting}
use Rattle.conn_trace.specs.Setup.{Setup}
use Rattle.conn_trace.specs.State.{Collecting, TraceState, Waits, ForRelay, Nothing, IsMet, Ready, link_of, with_choices}
use Rattle.conn_trace.specs.Trace.{GivesNoMore, collect_next, collecting_next, counted, fired_next, next_item}
use Rattle.core_events.specs.declared.note.CutReason.{CutReason}
use Rattle.core_events.specs.declared.note.Note.{Note}
use Rattle.core_events.specs.declared.note.Note.TheVariants as note
use Rattle.conn.specs.Acts.{Collects, CollectsBy, cut_of}
use Rattle.conn.specs.Ends.{is_sought, is_up}
use Rattle.conn.specs.Holds.{Around, Holds, Stands}
use Rattle.conn.specs.Setups.{Serves}
use Rattle.conn.specs.Stages.{fits, has_finished, is_in_body}
use Rattle.conn.specs.declared.connection.Conn.{Conn}
use Rattle.conn.specs.declared.setup.Setup as code_setup
use Rattle.conn.specs.declared.stage.Stage.TheVariants as stage
use Rattle.conn.specs.declared.turn.Act as step_act
use Rattle.conn.proofs.Acting.{ActGave, rest_group, rest_noted, rests_gave, plain_rest}
use Rattle.conn.proofs.Firing.{fires_client}
use Rattle.conn.proofs.SelectItems.{next_in}

-- it collects, and this collect is in force
record InCollect (x : Asks) (u : List ℕ) (l : TraceState) : Type 0 where
  no_cut : l.answers.cut ≡ None
  phase : l.phase ≡ Collecting
  asks : l.host.net.client.asks ≡ x
  unread : l.client.unread ≡ u

-- a met collect, by its number
met_by : (asks : Asks) (u : List ℕ) (n : ℕ) → meets asks u ≡ Some n → (asks ≡ Stated n) × (nat_le n (length u) ≡ true)
met_by NotAsked u n is = absurd (let e = is in cc)
met_by (Stated k) u n is = by_test (nat_le k (length u)) refl is
  where
    by_test : (b : Bool) → nat_le k (length u) ≡ b → (if b then Some k else None) ≡ Some n → (Stated k ≡ Stated n) × (nat_le n (length u) ≡ true)
    by_test true e s = let same : k ≡ n = cc in (ap Stated same, ap (λ x. nat_le x (length u)) (sym same) ∙ e)
    by_test false e s = absurd (let x = s in cc)

module _ (g : Setup) (asks : Asks) (u : List ℕ) (l : TraceState) (r : InCollect asks u l) where
  -- what comes next, by the collect
  collects_next : (choices : List Choice) → l.answers.choices ≡ choices → (x : Asks) → asks ≡ x → next_item g l ≡ counted l.sent (collecting_next g l x)
  collects_next choices chosen x is =
      next_in g Collecting l.host (link_of l.server) l (record { phase = r.phase; host = refl; link = refl; no_cut = r.no_cut })
      ∙ ap (λ y. counted l.sent (collecting_next g l y)) (r.asks ∙ is)

  collect_fires : (n : ℕ) → l.answers.choices ≡ Fires Client ∷ [] → asks ≡ Stated n → nat_le n (length u) ≡ true → next_item g l ≡ counted l.sent (fired_next g l Client n [])
  collect_fires n chosen is met =
      collects_next (Fires Client ∷ []) chosen (Stated n) is
      ∙ ap (λ cs. counted l.sent (collect_next g l (collect_act n l.client.unread (behind_fires cs)))) chosen
      ∙ ap (λ b. counted l.sent (collect_next g l (if b then Firing Client n [] else Resting))) (ap (λ x. nat_le n (length x)) r.unread ∙ met)

  -- where it isn't met it rests
  collect_rests : (took : TakenCounts) → l.answers.choices ≡ [] → meets asks u ≡ None → GivesNoMore false l.sent took (next_item g l) × (plain_rest (next_item g l) ≡ true)
  collect_rests took none unmet = by_asks asks refl
    where
      by_kind : (ready : Ready) → ready ≡ Nothing → next_item g l ≡ Waits (ForRelay ready Nothing) → GivesNoMore false l.sent took (next_item g l) × (plain_rest (next_item g l) ≡ true)
      by_kind kind is step =
          let there = step ∙ ap (λ x. Waits (ForRelay x Nothing)) is in
          (subst (λ o. GivesNoMore false l.sent took o) (sym there) refl, ap plain_rest there)

      by_met : (n : ℕ) (b : Bool) → nat_le n (length u) ≡ b → (if b then Some n else None) ≡ None → (if b then IsMet else Nothing) ≡ Nothing
      by_met n true e s = absurd (let x = s in cc)
      by_met n false e s = refl

      by_asks : (x : Asks) → asks ≡ x → GivesNoMore false l.sent took (next_item g l) × (plain_rest (next_item g l) ≡ true)
      by_asks NotAsked is =
          let step = collects_next [] none NotAsked is in
          (subst (λ o. GivesNoMore false l.sent took o) (sym step) refl, ap plain_rest step)
      by_asks (Stated n) is =
          let unmet_there : (if nat_le n (length u) then Some n else None) ≡ None = ap (λ x. meets x u) (sym is) ∙ unmet in
          let is_nothing : ready (Stated n) u ≡ Nothing = by_met n (nat_le n (length u)) refl unmet_there in
          by_kind (ready l.host.net.client.asks l.client.unread) (ap (λ x. ready x l.client.unread) (r.asks ∙ is) ∙ ap (λ x. ready (Stated n) x) r.unread ∙ is_nothing)
          (collects_next [] none (Stated n) is ∙ ap (λ cs. counted l.sent (collect_next g l (collect_act n l.client.unread (behind_fires cs)))) none)

-- the notes of a collect
abbrev pub collect_group : Option ℕ → ℕ → Option CutReason → List Note
collect_group None c cut = rest_group c cut
collect_group (Some n) c cut = note.Fired c Client ∷ []

pub collect_noted : (s : code_setup.Setup) (c : ℕ) (o : Option ℕ) (old new : Conn) (before after : List Note) (did : step_act.Act) → CollectsBy o s c old new before after did → after ≡ before ++ collect_group o c (cut_of old)
collect_noted s c None old new before after did k = rest_noted s c old new before after did (cut_of old) k
collect_noted s c (Some n) old new before after did (goes, k) = k.noted

module _ (s : code_setup.Setup) (g : Setup) (serves : Serves s g) (a : Around) (l : TraceState) (c : ℕ) (old new : Conn) (h : Holds g a l old) (is : old.stage ≡ stage.Collecting) (st : Stands g stage.Collecting l old) where
  fit : not (is_sought old.ends.link) ≡ true
  fit = sym (ap (λ x. fits x old.ends.link) is) ∙ h.fits

  there : (choices : List Choice) → InCollect old.host.net.client.asks old.ends.client.unread (with_choices choices l)
  there choices = record { no_cut = h.no_cut; phase = st.0; asks = ap (λ x. x.net.client.asks) st.1.host; unread = ap (λ x. x.unread) h.ends.client }

  here : InCollect old.host.net.client.asks old.ends.client.unread l
  here = record { no_cut = h.no_cut; phase = st.0; asks = ap (λ x. x.net.client.asks) st.1.host; unread = ap (λ x. x.unread) h.ends.client }

  pub collects : (before after : List Note) (did : step_act.Act) → Collects s c old new before after did → ActGave g a l c old new (collect_group (meets old.host.net.client.asks old.ends.client.unread) c (cut_of old)) did
  collects before after did k = by_met (meets old.host.net.client.asks old.ends.client.unread) refl k
    where
      by_met : (o : Option ℕ) → meets old.host.net.client.asks old.ends.client.unread ≡ o → CollectsBy o s c old new before after did → ActGave g a l c old new (collect_group o c (cut_of old)) did
      by_met None unmet k =
          let stops = collect_rests g old.host.net.client.asks old.ends.client.unread l here a.took h.no_choice unmet in
          rests_gave s g serves a l c old new h st.1 before after did (ap is_in_body is) stops.0 stops.1 k
      by_met (Some n) met (goes, k) =
          let asked = met_by old.host.net.client.asks old.ends.client.unread n met in
          subst (λ d. ActGave g a l c old new (note.Fired c Client ∷ []) d) (sym goes)
          (fires_client s g serves a l c old new h st.1 (h.finished ∙ ap has_finished is) n before after (or_right (is_up old.ends.link) (not (is_sought old.ends.link)) fit)
          (collect_fires g old.host.net.client.asks old.ends.client.unread (with_choices (Fires Client ∷ []) l) (there (Fires Client ∷ [])) n refl asked.0 asked.1) k)
