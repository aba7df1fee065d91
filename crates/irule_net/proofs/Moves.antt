-- What each step of a command keeps.
use Rattle.std.proofs.Common.{◌≡◌, ℕ, ◌+◌, ◌≤◌, Bool, true, false, List, [], ◌∷◌, ◌++◌, length, refl, arith}
use Rattle.std.proofs.Common.{Ok, Err}
use Rattle.std.specs.Prelude.{nat_lt, ◌==◌, if◌then◌else◌}
use Rattle.std.proofs.lemmas.Bool.{ltb-false}
use Rattle.px_bytes.specs.Host.{Effect, Gives, Faults, Logged, Sent}
use Rattle.px_bytes.specs.FaultText.{too_long}
use Rattle.px_bytes.specs.declared.addr.Side.{Side}
use Rattle.px_bytes.specs.declared.addr.Side.TheVariants.{Client, Server}
use Rattle.px_bytes.specs.declared.fault.TclFault.{TclFault}
use Rattle.event_order.specs.declared.event.EventName.{EventName}
use Rattle.irule_net.specs.FaultText.{reselects_spent}
use Rattle.irule_net.specs.Commands.{asked, net_step, stepped}
use Rattle.irule_net.specs.Laws.{Calls, KeepsGiven, LeavesState, left_by, made_behind, made_by, sent_to}
use Rattle.irule_net.specs.Requests.{Asked}
use Rattle.irule_net.specs.State.{asked_bytes, collected, gone, holds, respond_limit, side_of, with_collected}
use Rattle.irule_net.specs.Steps.{Step, collects, done, holds_instead, releases, replaced, reselects}
use Rattle.irule_net.specs.declared.groups.Groups.{Groups}
use Rattle.irule_net.specs.declared.request.Request.{Request}
use Rattle.irule_net.specs.declared.request.Request.TheVariants as request
use Rattle.irule_net.specs.declared.state.Collected.{Collected}
use Rattle.irule_net.specs.declared.state.NetState.{NetState}
use Rattle.irule_net.specs.declared.state.Target.{Target}
use Rattle.irule_net.specs.declared.state.Wishes.{Wishes}

pub record Moves (side : Side) (s : NetState) (step : Step) : Type 0 where
  pub given : KeepsGiven s (left_by step)
  pub sent : (left_by step).wishes.sent ≡ s.wishes.sent + sent_to side (made_by step)
  pub within : s.wishes.sent ≤ respond_limit → (left_by step).wishes.sent ≤ respond_limit
  pub leaves : LeavesState s step

-- all but the given fields may change
kept : (s : NetState) (target : Target) (reselects : ℕ) (client server : Collected) (loose : List ℕ)
    (wishes : Wishes)
    → KeepsGiven s (record s {
      target = target;
      reselects = reselects;
      client = client;
      server = server;
      loose = loose;
      wishes = wishes;
    })
kept s target reselects client server loose wishes =
    record { from = refl; port = refl; pool = refl; http = refl; selected = refl; relays = refl }

all_kept : (s : NetState) → KeepsGiven s s
all_kept s = record { from = refl; port = refl; pool = refl; http = refl; selected = refl; relays = refl }

quiet : (side : Side) (s t : NetState) (v : List ℕ) → KeepsGiven s t → t.wishes.sent ≡ s.wishes.sent
    → Moves side s (Gives v t [])
quiet side s t v k e = record {
  given = k;
  sent = omega (arith, e);
  within = λ h. omega (arith, e, h);
  leaves = tt;
}

faulted : (side : Side) (s : NetState) (f : TclFault) → Moves side s (Faults f s [])
faulted side s f = record {
  given = all_kept s;
  sent = omega arith;
  within = λ h. h;
  leaves = (refl, refl);
}

either : (side : Side) (s : NetState) (b : Bool) (x y : Step) → Moves side s x → Moves side s y
    → Moves side s (if b then x else y)
either side s true x y p q = p
either side s false x y p q = q

collected_kept : (side : Side) (c : Collected) (s : NetState) → KeepsGiven s (with_collected side c s)
collected_kept Client c s = kept s s.target s.reselects c s.server s.loose s.wishes
collected_kept Server c s = kept s s.target s.reselects s.client c s.loose s.wishes

same_sent : (side : Side) (c : Collected) (s : NetState)
    → (with_collected side c s).wishes.sent ≡ s.wishes.sent
same_sent Client c s = refl
same_sent Server c s = refl

collected_moves : (side : Side) (c : Collected) (s : NetState)
    → Moves side s (Gives [] (with_collected side c s) [])
collected_moves side c s = quiet side s (with_collected side c s) [] (collected_kept side c s)
    (same_sent side c s)

collects_moves : (side : Side) (n : ℕ) (s : NetState) → Moves side s (collects side n s)
collects_moves side n s =
    either side s (n == 0) _ _ (quiet side s s [] (all_kept s) refl)
    (either side s (holds (length (collected side s).held) (gone side s) n) _ _ (collected_moves side _ s)
    (faulted side s too_long))

instead_moves : (side : Side) (held : List ℕ) (s : NetState) → Moves side s (holds_instead side held s)
instead_moves side held s =
    either side s (holds (length held) (gone side s) (asked_bytes (collected side s).asks)) _ _
    (collected_moves side _ s) (faulted side s too_long)

-- bytes go to the other side
sent_over : (side : Side) (s t : NetState) (effect : Effect) → KeepsGiven s t → t.wishes.sent ≡ s.wishes.sent
    → sent_to side (effect ∷ []) ≡ 0 → Moves side s (Gives [] t (effect ∷ []))
sent_over side s t effect k e none = record {
  given = k;
  sent = omega (arith, e, none);
  within = λ h. omega (arith, e, h);
  leaves = tt;
}

releases_moves : (side : Side) (s : NetState) → Moves side s (releases side s)
releases_moves Server s =
    sent_over Server s _ _ (kept s s.target s.reselects s.client _ s.loose _) refl refl
releases_moves Client s =
    either Client s s.relays _ _
    (sent_over Client s _ _ (kept s s.target s.reselects _ s.server s.loose _) refl refl)
    (quiet Client s _ [] (kept s s.target s.reselects _ s.server _ _) refl)

-- bytes go to the event's side
sent_back : (side : Side) (text : List ℕ) → sent_to side (Sent side text ∷ []) ≡ length text
sent_back Client text = omega arith
sent_back Server text = omega arith

responded : (side : Side) (text : List ℕ) (s : NetState) (b : Bool)
    → nat_lt respond_limit (s.wishes.sent + length text) ≡ b
    → Moves side s (if b then Faults too_long s [] else Gives [] (record s {
      wishes = record s.wishes { sent = s.wishes.sent + length text };
    }) (Sent side text ∷ []))
responded side text s true e = faulted side s too_long
responded side text s false e = record {
  given = kept s s.target s.reselects s.client s.server s.loose _;
  sent = rw (sent_back side text) refl;
  within = λ h. ltb-false respond_limit (s.wishes.sent + length text) e;
  leaves = tt;
}

reselects_moves : (side : Side) (target : Target) (s : NetState) → Moves side s (reselects target s)
reselects_moves side target s =
    either side s (nat_lt s.reselects 16) _ _
    (quiet side s _ [] (kept s target _ s.client s.server s.loose _) refl) (faulted side s reselects_spent)

done_moves : (side : Side) (r : Request) (s : NetState) → Moves side s (done side r s)
done_moves side (request.Gives text) s = quiet side s s text (all_kept s) refl
done_moves side (request.Tells tell) s = quiet side s s _ (all_kept s) refl
done_moves side (request.Asks call) s = record {
  given = all_kept s;
  sent = omega arith;
  within = λ h. h;
  leaves = refl;
}
done_moves side (request.Logs text) s = sent_over side s s (Logged text) (all_kept s) refl refl
done_moves side (request.Chooses target) s =
    quiet side s _ [] (kept s target s.reselects s.client s.server s.loose s.wishes) refl
done_moves side (request.Ends ending) s =
    quiet side s _ [] (kept s s.target s.reselects s.client s.server s.loose _) refl
done_moves side (request.Collects n) s = collects_moves side n s
done_moves side request.Releases s = releases_moves side s
done_moves side (request.Responds text) s =
    responded side text s (nat_lt respond_limit (s.wishes.sent + length text)) refl
done_moves side (request.Replaces offset count text) s =
    instead_moves side (replaced offset count text (collected side s).held) s
done_moves side request.Reselects s = reselects_moves side s.target s
done_moves side (request.ReselectsFrom target) s = reselects_moves side target s
done_moves side request.Detaches s =
    quiet side s _ [] (kept s s.target s.reselects s.client s.server s.loose _) refl

stepped_moves : (event : EventName) (r : Asked) (s : NetState) → Moves (side_of event) s (stepped event r s)
stepped_moves event (Ok r) s = done_moves (side_of event) r s
stepped_moves event (Err f) s = faulted (side_of event) s f

pub moves : (groups : Groups) (event : EventName) (s : NetState) (words : List (List ℕ))
    → Moves (side_of event) s (net_step groups event s words)
moves groups event s words = stepped_moves event (asked groups event s words) s

pub sent-append : (side : Side) (es fs : List Effect)
    → sent_to side (es ++ fs) ≡ sent_to side es + sent_to side fs
sent-append side [] fs = omega arith
sent-append side (e ∷ es) fs = omega (arith, sent-append side es fs)

-- what was sent and what is still sent
pub bounded : (groups : Groups) (event : EventName) (s : NetState) (calls : Calls)
    → s.wishes.sent ≤ respond_limit
    → s.wishes.sent + sent_to (side_of event) (made_behind groups event s calls) ≤ respond_limit
bounded groups event s [] h = omega (arith, h)
bounded groups event s (words ∷ calls) h =
    let m = moves groups event s words in
    let t = left_by (net_step groups event s words) in
    let side = side_of event in
    let rest = bounded groups event t calls (m.within h) in
    omega (
      arith,
      m.sent,
      rest,
      sent-append side (made_by (net_step groups event s words))
          (made_behind groups event t calls),
    )
