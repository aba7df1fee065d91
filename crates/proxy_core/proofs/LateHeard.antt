-- All server connections of a connection are heard of, but one that was made behind its finish.
use Rattle.std.proofs.Common.{◌≡◌, refl, sym, ap, subst, ℕ, ◌+◌, [], ◌∷◌, Bool, true, false, ◌||◌, None, nat_eq, if◌then◌else◌, arith}
use Rattle.std.specs.Prelude.{is_some}
use Rattle.core_events.specs.declared.event_kind.EventKind.{EventKind}
use Rattle.core_events.specs.declared.event_kind.EventKind.TheVariants.{Accepts, Comes, Ticks}
use Rattle.core_events.specs.declared.event_kind.EventKind.TheVariants.{Turns, Runs, Marks}
use Rattle.core_events.specs.declared.input.Input.TheVariants.{Bytes, Ends, Resets, Connects, Takes}
use Rattle.core_events.specs.Edges.{is_connecting}
use Rattle.core_events.specs.Kinds.{kind_of}
use Rattle.conn_trace.specs.Heard.{Heard, brought_nothing, event_brings, event_late, hears}
use Rattle.conn_trace.specs.Tellings.{finish_told, notes_about}
use Rattle.record_model.specs.Past.{Past, heard}
use Rattle.record_model.specs.Setup.{stand_of}
use Rattle.run_config.specs.declared.config.Config.{Config}
use Rattle.proxy_core.specs.Moves.{Leads}
use Rattle.proxy_core.specs.Refusal.{refused}
use Rattle.proxy_core.specs.Scheduler.{State, Seen, seen}
use Rattle.proxy_core.specs.Servers.{LateServer, made, makes, servers_made}
use Rattle.proxy_core.specs.Sound.{SoundAt, unseen}
use Rattle.proxy_core.proofs.HeardServers.{event_makes, made_more}
use Rattle.proxy_core.proofs.LinkedComes.{was_true}
use Rattle.proxy_core.proofs.Members.{eq_same}
use Rattle.proxy_core.proofs.SoundAccepts.{none_late}
use Rattle.proxy_core.proofs.SoundPast.{leads_sound, may_come_at}
use Rattle.proxy_core.proofs.Standing.{as_served, is_unseen}

abbrev LateOf : Config → Seen → Type 0
LateOf C z = LateServer z.heard.late z.heard.finished (stand_of C z.heard z.place) z.heard.edges.server.state

pub late_of : (C : Config) (c : ℕ) (z : Seen) → SoundAt C c z → LateOf C z
late_of C c z s = by_accepted (is_some z.heard.accepted) refl
  where
    by_accepted : (b : Bool) → is_some z.heard.accepted ≡ b → LateOf C z
    by_accepted true e = (as_served C c z e s).late
    by_accepted false e = subst (LateOf C) (sym (is_unseen C c z e s)) (none_late false (stand_of C unseen.heard unseen.place))

-- one that was made behind the finish
abbrev pub late_count : Bool → ℕ
late_count true = 1
late_count false = 0

-- an answer comes only where none was made behind the finish
abbrev AnswersOnTime : ℕ → EventKind → Bool → Type 0
AnswersOnTime c v late = (d : ℕ) (made : Bool) → v ≡ Comes d (Connects made) → nat_eq d c ≡ true → late ≡ false

late_step : (c : ℕ) (v : EventKind) (late : Bool) (n m : ℕ) → AnswersOnTime c v late → n ≡ m + late_count late → n + makes c v ≡ m + late_count (event_late c v late)
late_step c (Comes d (Connects true)) late n m fine k = by_number (nat_eq d c) refl
  where
    by_number : (b : Bool) → nat_eq d c ≡ b → n + (if b then 1 else 0) ≡ m + late_count (if b then true else late)
    by_number true e = let none = ap late_count (fine d true refl e) in omega (arith, k, none)
    by_number false e = omega (arith, k)
late_step c (Comes d (Connects false)) late n m fine k = by_number (nat_eq d c) refl
  where
    by_number : (b : Bool) → nat_eq d c ≡ b → n + 0 ≡ m + late_count (if b then false else late)
    by_number true e = let none = ap late_count (fine d false refl e) in omega (arith, k, none)
    by_number false e = omega (arith, k)
late_step c (Comes d (Bytes side bytes)) late n m fine k = by_number (nat_eq d c)
  where
    by_number : (b : Bool) → n + 0 ≡ m + late_count (if b then late else late)
    by_number true = omega (arith, k)
    by_number false = omega (arith, k)
late_step c (Comes d (Ends side)) late n m fine k = by_number (nat_eq d c)
  where
    by_number : (b : Bool) → n + 0 ≡ m + late_count (if b then late else late)
    by_number true = omega (arith, k)
    by_number false = omega (arith, k)
late_step c (Comes d (Resets side)) late n m fine k = by_number (nat_eq d c)
  where
    by_number : (b : Bool) → n + 0 ≡ m + late_count (if b then late else late)
    by_number true = omega (arith, k)
    by_number false = omega (arith, k)
late_step c (Comes d (Takes side t)) late n m fine k = by_number (nat_eq d c)
  where
    by_number : (b : Bool) → n + 0 ≡ m + late_count (if b then late else late)
    by_number true = omega (arith, k)
    by_number false = omega (arith, k)
late_step c (Accepts d vs from) late n m fine k = omega (arith, k)
late_step c (Ticks moment) late n m fine k = omega (arith, k)
late_step c Turns late n m fine k = omega (arith, k)
late_step c Runs late n m fine k = omega (arith, k)
late_step c (Marks pool member up) late n m fine k = omega (arith, k)

answers_on_time : (C : Config) (past : Past) (s : State) (c : ℕ) (v : EventKind) → Leads C past s → refused C past s v ≡ None → AnswersOnTime c v (heard c past).late
answers_on_time C past s c v leads fine d made is same =
    let each = (leads_sound C past s leads).each d in
    let may = may_come_at C past s d (Connects made) each (subst (λ k. refused C past s k ≡ None) is fine) in
    let connecting = was_true (is_connecting (heard d past).edges.server.state) may.asked in
    subst (λ n. (heard n past).late ≡ false) (eq_same d c same) ((late_of C d (seen past s d) each).asked connecting).0

pub servers_counted : (C : Config) (past : Past) (s : State) (c : ℕ) → Leads C past s → servers_made c past ≡ made (heard c past).connects + late_count (heard c past).late
servers_counted C [] s c leads = omega arith
servers_counted C (x ∷ past) s c (before, leads, fine, moves) = by_over (h.finished || finish_told (notes_about c x.group)) (servers_counted C past before c leads) (made_more c h v x.group)
  where
    h : Heard
    h = heard c past

    v : EventKind
    v = kind_of x.event

    by_over : (b : Bool) → servers_made c past ≡ made h.connects + late_count h.late → made (hears c h v x.group).connects ≡ made h.connects + made (if b then brought_nothing else event_brings c v).connects
        → servers_made c past + makes c v ≡ made (hears c h v x.group).connects + late_count (if b then event_late c v h.late else h.late)
    by_over true k e =
        let l = late_step c v h.late (servers_made c past) (made h.connects) (answers_on_time C past before c v leads fine) k in
        let same : made (hears c h v x.group).connects ≡ made h.connects + 0 = e in omega (arith, l, same)
    by_over false k e = let m = event_makes c v in omega (arith, m, k, e)
