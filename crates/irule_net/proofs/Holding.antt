-- What a command leaves held, and what it lets go.
use Rattle.std.proofs.Common.{◌≡◌, ℕ, ◌+◌, ◌≤◌, Bool, true, false, List, [], ◌∷◌, length, refl, arith, Ok, Err}
use Rattle.std.proofs.Common.{length-append}
use Rattle.std.specs.Prelude.{nat_lt, ◌==◌, if◌then◌else◌}
use Rattle.std.proofs.lemmas.Bool.{leb-true}
use Rattle.px_bytes.specs.Host.{Effect, Gives, Faults, Logged, Sent}
use Rattle.px_bytes.specs.FaultText.{too_long}
use Rattle.px_bytes.specs.declared.addr.Side.{Side}
use Rattle.px_bytes.specs.declared.addr.Side.TheVariants.{Client, Server}
use Rattle.px_bytes.specs.declared.fault.TclFault.{TclFault}
use Rattle.event_order.specs.declared.event.EventName.{EventName}
use Rattle.irule_net.specs.FaultText.{reselects_spent}
use Rattle.irule_net.specs.Commands.{asked, net_step, stepped}
use Rattle.irule_net.specs.Laws.{Calls, Fits, left_by, made_behind, made_by, sent_to}
use Rattle.irule_net.specs.Requests.{Asked}
use Rattle.irule_net.specs.State.{asked_bytes, collected, gone, hold_limit, holds, other, respond_limit, side_of, with_collected}
use Rattle.irule_net.specs.Steps.{Step, collects, done, holds_instead, releases, replaced, reselects}
use Rattle.irule_net.specs.declared.groups.Groups.{Groups}
use Rattle.irule_net.specs.declared.request.Request.{Request}
use Rattle.irule_net.specs.declared.request.Request.TheVariants as request
use Rattle.irule_net.specs.declared.state.Asks.TheVariants.{Stated}
use Rattle.irule_net.specs.declared.state.Collected.{Collected}
use Rattle.irule_net.specs.declared.state.NetState.{NetState}
use Rattle.irule_net.specs.declared.state.Target.{Target}
use Rattle.irule_net.specs.declared.state.Wishes.{Wishes}
use Rattle.irule_net.proofs.Moves.{sent-append}

pub record Holding (side : Side) (s : NetState) (step : Step) : Type 0 where
  pub fits : Fits side s → Fits side (left_by step)
  pub passes : s.wishes.let_go + sent_to (other side) (made_by step) ≤ (left_by step).wishes.let_go

-- neither the held bytes nor those that wait are changed, and nothing goes to the other side
calm : (side : Side) (s : NetState) (target : Target) (count : ℕ) (w : Wishes) (v : List ℕ) (es : List Effect)
    → w.let_go ≡ s.wishes.let_go → sent_to (other side) es ≡ 0
    → Holding side s (Gives v (record s { target = target; reselects = count; wishes = w }) es)
calm Client s target count w v es g n = record {
  fits = λ h. rw g h;
  passes = omega (arith, g, n);
}
calm Server s target count w v es g n = record {
  fits = λ h. rw g h;
  passes = omega (arith, g, n);
}

still : (side : Side) (s : NetState) (v : List ℕ) (es : List Effect) → sent_to (other side) es ≡ 0
    → Holding side s (Gives v s es)
still side s v es n = record {
  fits = λ h. h;
  passes = omega (arith, n);
}

faulted : (side : Side) (s : NetState) (f : TclFault) → Holding side s (Faults f s [])
faulted side s f = record {
  fits = λ h. h;
  passes = omega arith;
}

either : (side : Side) (s : NetState) (b : Bool) (x y : Step) → Holding side s x → Holding side s y
    → Holding side s (if b then x else y)
either side s true x y p q = p
either side s false x y p q = q

-- another collect of the side, where it fits
set_in : (side : Side) (c : Collected) (s : NetState) (b : Bool)
    → holds (length c.held) (gone side s) (asked_bytes c.asks) ≡ b
    → Holding side s (if b then Gives [] (with_collected side c s) [] else Faults too_long s [])
set_in Client c s true e = record {
  fits = λ h. leb-true (length c.held + gone Client s + asked_bytes c.asks) hold_limit e;
  passes = omega arith;
}
set_in Server c s true e = record {
  fits = λ h. leb-true (length c.held + gone Server s + asked_bytes c.asks) hold_limit e;
  passes = omega arith;
}
set_in side c s false e = faulted side s too_long

collects_hold : (side : Side) (n : ℕ) (s : NetState) → Holding side s (collects side n s)
collects_hold side n s =
    either side s (n == 0) _ _ (still side s [] [] refl)
    (set_in side (record (collected side s) { asks = Stated n }) s
    (holds (length (collected side s).held) (gone side s) n) refl)

instead_holds : (side : Side) (held : List ℕ) (s : NetState) → Holding side s (holds_instead side held s)
instead_holds side held s =
    set_in side (record (collected side s) { held = held }) s
    (holds (length held) (gone side s) (asked_bytes (collected side s).asks)) refl

releases_hold : (side : Side) (s : NetState) → Holding side s (releases side s)
releases_hold Server s = record {
  fits = λ h. omega (arith, h);
  passes = omega arith;
}
releases_hold Client s =
    either Client s s.relays _ _ (record {
      fits = λ h. omega (arith, h);
      passes = omega arith;
    }) (record {
      fits = λ h. omega (arith, h, length-append s.loose s.client.held);
      passes = omega arith;
    })

not_over : (side : Side) (text : List ℕ) → sent_to (other side) (Sent side text ∷ []) ≡ 0
not_over Client text = refl
not_over Server text = refl

reselects_hold : (side : Side) (target : Target) (s : NetState) → Holding side s (reselects target s)
reselects_hold side target s =
    either side s (nat_lt s.reselects 16) _ _ (calm side s target (s.reselects + 1) _ [] [] refl refl)
    (faulted side s reselects_spent)

done_holds : (side : Side) (r : Request) (s : NetState) → Holding side s (done side r s)
done_holds side (request.Gives text) s = still side s text [] refl
done_holds side (request.Tells tell) s = still side s _ [] refl
done_holds side (request.Asks call) s = record {
  fits = λ h. h;
  passes = omega arith;
}
done_holds side (request.Logs text) s = still side s [] (Logged text ∷ []) refl
done_holds side (request.Chooses target) s = calm side s target s.reselects s.wishes [] [] refl refl
done_holds side (request.Ends ending) s = calm side s s.target s.reselects _ [] [] refl refl
done_holds side (request.Collects n) s = collects_hold side n s
done_holds side request.Releases s = releases_hold side s
done_holds side (request.Responds text) s =
    either side s (nat_lt respond_limit (s.wishes.sent + length text)) _ _ (faulted side s too_long)
    (calm side s s.target s.reselects _ [] (Sent side text ∷ []) refl (not_over side text))
done_holds side (request.Replaces offset count text) s =
    instead_holds side (replaced offset count text (collected side s).held) s
done_holds side request.Reselects s = reselects_hold side s.target s
done_holds side (request.ReselectsFrom target) s = reselects_hold side target s
done_holds side request.Detaches s = calm side s s.target s.reselects _ [] [] refl refl

stepped_holds : (event : EventName) (r : Asked) (s : NetState) → Holding (side_of event) s (stepped event r s)
stepped_holds event (Ok r) s = done_holds (side_of event) r s
stepped_holds event (Err f) s = faulted (side_of event) s f

pub holding : (groups : Groups) (event : EventName) (s : NetState) (words : List (List ℕ))
    → Holding (side_of event) s (net_step groups event s words)
holding groups event s words = stepped_holds event (asked groups event s words) s

within_gone : (side : Side) (s : NetState) → s.wishes.let_go ≤ gone side s
within_gone Client s = omega arith
within_gone Server s = omega arith

-- what was let go and what still goes to the other side
pub let_go_bounded : (groups : Groups) (event : EventName) (s : NetState) (calls : Calls) → Fits (side_of event) s
    → s.wishes.let_go + sent_to (other (side_of event)) (made_behind groups event s calls) ≤ hold_limit
let_go_bounded groups event s [] h = omega (arith, h, within_gone (side_of event) s)
let_go_bounded groups event s (words ∷ calls) h =
    let m = holding groups event s words in
    let t = left_by (net_step groups event s words) in
    let side = other (side_of event) in
    let rest = let_go_bounded groups event t calls (m.fits h) in
    omega (
      arith,
      m.passes,
      rest,
      sent-append side (made_by (net_step groups event s words)) (made_behind groups event t calls),
    )
