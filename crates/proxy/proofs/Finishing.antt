-- From what stands and the end of a report to what a replay comes to.
use Rattle.std.proofs.Common.{◌≡◌, inl, inr, refl, sym, ap, subst, ◌∙◌, ℕ, ◌+◌, ◌≤◌, List, []}
use Rattle.std.proofs.Common.{◌++◌, append-nil, length, Option, Result, Ok, Err, IfOk, arith}
use Rattle.px_bytes.specs.declared.memory.Memory as want
use Rattle.px_outside.specs.Outside.{told_more, Rose}
use Rattle.run_config.specs.declared.config.Config as configured
use Rattle.core_events.specs.declared.bad_event.BadEvent.{BadEvent}
use Rattle.proxy_core.proofs.Promises.{every_past_matches}
use Rattle.journal_text.specs.declared.line_kind.LineKind.{LineKind}
use Rattle.proxy.specs.declared.end.End.{End}
use Rattle.proxy.specs.declared.end.End.TheVariants.{Done, Usage, Config, Schedule, ReadFault}
use Rattle.proxy.specs.declared.end.End.TheVariants.{WriteFault, Memory, Differs, SecondText}
use Rattle.proxy.specs.declared.replay.Replay.{Replay}
use Rattle.proxy.specs.End.{end_unless}
use Rattle.proxy.specs.Replay.{notes_text, accepted, connections_text, conns_text, report_text}
use Rattle.proxy.specs.Report.{end_text, text_fault, event_fault}
use Rattle.proxy.specs.declared.replay.Stop.{Stop}
use Rattle.proxy.specs.declared.replay.Stop.TheVariants as stop
use Rattle.proxy.specs.Stops.{StopsAtStart, StoppedText, StoppedEvent}
use Rattle.proxy.specs.Written.{Stands, StandsAtEnd, IsLast, WritesFront, WritesFrontOf}
use Rattle.proxy.specs.Replayed.{Reports, ReplaysAll, Replayed, Finished}
use Rattle.proxy.specs.Replayed.{FinishFault}
use Rattle.proxy.proofs.ConnectionLines.{lines_same}
use Rattle.proxy.proofs.Stopping.{told_twice, front_more, front_of, written_front, front_longer}

pub rose_earlier : (a b c : ℕ) → a ≤ b → Rose b c → Rose a c
rose_earlier a b c h (inl k) = inl (omega (arith, h, k))
rose_earlier a b c h (inr k) = inr k

-- the lines of the connections that the program writes
ends_same : (C : configured.Config) (r : Replay) (text : List ℕ) (number : ℕ) (last : List ℕ) (old mid : Option (List ℕ)) (s : Stands C text number r.core r.taken.items r.events old mid) → conns_text r.core r.taken.items ++ last ≡ connections_text s.past s.state (accepted s.past) ++ last
ends_same C r text number last old mid s = ap (λ l. l ++ last) (ap (conns_text r.core) s.taken_is ∙ lines_same C s.past s.state r.core (accepted s.past) s.represents)

-- all of the report was written
reports : (C : configured.Config) (r : Replay) (text : List ℕ) (number : ℕ) (last : List ℕ) (old mid new : Option (List ℕ)) (s : Stands C text number r.core r.taken.items r.events old mid) → new ≡ told_more mid (conns_text r.core r.taken.items ++ last) → Reports C s.past s.state text number last old new
reports C r text number last old mid new s w = record {
  core = r.core;
  represents = s.represents;
  output_matches_evaluator = every_past_matches C s.past s.state s.represents.sound.leads;
  reads = s.reads;
  report_bytes = w ∙ ap (told_more mid) (ends_same C r text number last old mid s) ∙ ap (λ o. told_more o (connections_text s.past s.state (accepted s.past) ++ last)) s.written ∙ told_twice old (notes_text C s.past) _;
}

-- a part of its end was written
part_written : (C : configured.Config) (r : Replay) (schedule text rest : List ℕ) (number : ℕ) (last : List ℕ) (old mid new : Option (List ℕ)) (s : Stands C text number r.core r.taken.items r.events old mid) → schedule ≡ text ++ rest → IsLast C s.past s.state number rest last → WritesFrontOf (conns_text r.core r.taken.items ++ last) mid new → WritesFront C schedule old new
part_written C r schedule text rest number last old mid new s e is w =
    let P : List ℕ → Type 0 = λ l. WritesFrontOf l mid new in (
      report_text C s.past s.state last,
      inr (record { past = s.past; state = s.state; of_front = front_of C text rest schedule number r.core r.taken.items r.events old mid e s; last = last; is_last = is; text_is = refl }),
      front_more (notes_text C s.past) (connections_text s.past s.state (accepted s.past) ++ last) old mid new s.written (subst P (ends_same C r text number last old mid s) w),
    )

fault_replayed : (C : configured.Config) (schedule : List ℕ) (old new : Option (List ℕ)) (before between now : ℕ) (e : End) → before ≤ between → FinishFault between now e → WritesFront C schedule old new → Replayed C schedule old new before now e
fault_replayed C schedule old new before between now Done h f w = absurd f
fault_replayed C schedule old new before between now Usage h f w = absurd f
fault_replayed C schedule old new before between now Config h f w = absurd f
fault_replayed C schedule old new before between now Schedule h f w = absurd f
fault_replayed C schedule old new before between now ReadFault h f w = absurd f
fault_replayed C schedule old new before between now WriteFault h f w = (rose_earlier before between now h f, w)
fault_replayed C schedule old new before between now Memory h f w = inr w
fault_replayed C schedule old new before between now Differs h f w = absurd f
fault_replayed C schedule old new before between now SecondText h f w = absurd f

-- by what became of the end of the report
ended : (C : configured.Config) (schedule : List ℕ) (r : Replay) (text rest : List ℕ) (number : ℕ) (last : Result (List ℕ) want.Memory) (old mid new : Option (List ℕ)) (before between now : ℕ) (end : End) (res : Result (Unit {0}) End) → schedule ≡ text ++ rest
    → (s : Stands C text number r.core r.taken.items r.events old mid) → before ≤ between → IfOk last (λ l. IsLast C s.past s.state number rest l)
    → IfOk last (λ l. Reports C s.past s.state text number l old new → Replayed C schedule old new before now end)
    → Finished r last mid new between now res → Replayed C schedule old new before now (end_unless end res)
ended C schedule r text rest number (Ok last) old mid new before between now end (Ok u) e s h i k f = k (reports C r text number last old mid new s f)
ended C schedule r text rest number (Ok last) old mid new before between now end (Err x) e s h i k f =
    fault_replayed C schedule old new before between now x h f.0 (part_written C r schedule text rest number last old mid new s e i f.1)
ended C schedule r text rest number (Err w) old mid new before between now end (Ok u) e s h i k f = absurd f
ended C schedule r text rest number (Err w) old mid new before between now end (Err x) e s h i k f =
    rw (f.0, f.1) (inr (front_longer C text rest schedule old mid e (written_front C text number r.core r.taken.items r.events old mid s)))

if_ok : {T : Type 0} (r : Result T want.Memory) (P Q : T → Type 0) → ((x : T) → P x → Q x) → IfOk r P → IfOk r Q
if_ok (Ok x) P Q f h = f x h
if_ok (Err w) P Q f h = tt

pub done_replayed : (C : configured.Config) (schedule : List ℕ) (r : Replay) (last : Result (List ℕ) want.Memory) (old mid new : Option (List ℕ)) (before between now : ℕ) (res : Result (Unit {0}) End) → StandsAtEnd C schedule r.core r.taken.items r.events old mid
    → before ≤ between → IfOk last (λ l. l ≡ end_text r.events) → Finished r last mid new between now res → Replayed C schedule old new before now (end_unless Done res)
done_replayed C schedule r last old mid new before between now res k h i f =
    let s = k.stands in
    let is : (l : List ℕ) → l ≡ end_text r.events → l ≡ end_text (length s.past) = λ l e. e ∙ ap end_text s.count in
    ended C schedule r schedule [] k.number last old mid new before between now Done res (sym (append-nil schedule)) s h
    (if_ok last (λ l. l ≡ end_text r.events) (λ l. IsLast C s.past s.state k.number [] l) (λ l e. inl (refl, is l e)) i)
    (if_ok last (λ l. l ≡ end_text r.events) (λ l. Reports C s.past s.state schedule k.number l old new → ReplaysAll C schedule old new)
    (λ l e x. record { past = s.past; state = s.state; number = k.number; reports = (let P : List ℕ → Type 0 = λ y. Reports C s.past s.state schedule k.number y old new in subst P (is l e) x) }) i) f

pub text_replayed : (C : configured.Config) (schedule : List ℕ) (r : Replay) (line : ℕ) (kind : LineKind) (last : Result (List ℕ) want.Memory) (old mid new : Option (List ℕ)) (before between now : ℕ) (res : Result (Unit {0}) End) → StoppedText C schedule line kind r.core r.taken.items r.events old mid
    → before ≤ between → IfOk last (λ l. l ≡ text_fault line kind) → Finished r last mid new between now res → Replayed C schedule old new before now (end_unless Schedule res)
text_replayed C schedule r line kind last old mid new before between now res k h i f =
    let s = k.stands in
    let is : (l : List ℕ) → l ≡ text_fault line kind → l ≡ text_fault (k.number + 1) kind = λ l e. e ∙ ap (λ n. text_fault n kind) k.line_is in
    ended C schedule r k.text k.rest k.number last old mid new before between now Schedule res k.schedule_is s h
    (if_ok last (λ l. l ≡ text_fault line kind) (λ l. IsLast C s.past s.state k.number k.rest l) (λ l e. inr (inl (kind, k.faulty, is l e))) i)
    (if_ok last (λ l. l ≡ text_fault line kind) (λ l. Reports C s.past s.state k.text k.number l old new → Replayed C schedule old new before now Schedule)
    (λ l e x. inl (record { past = s.past; state = s.state; text = k.text; rest = k.rest; schedule_is = k.schedule_is; number = k.number; kind = kind; faulty = k.faulty; reports = (let P : List ℕ → Type 0 = λ y. Reports C s.past s.state k.text k.number y old new in subst P (is l e) x) })) i) f

pub event_replayed : (C : configured.Config) (schedule : List ℕ) (r : Replay) (line : ℕ) (why : BadEvent) (last : Result (List ℕ) want.Memory) (old mid new : Option (List ℕ)) (before between now : ℕ) (res : Result (Unit {0}) End) → StoppedEvent C schedule line why r.core r.taken.items r.events old mid
    → before ≤ between → IfOk last (λ l. l ≡ event_fault line why) → Finished r last mid new between now res → Replayed C schedule old new before now (end_unless Schedule res)
event_replayed C schedule r line why last old mid new before between now res k h i f =
    let s = k.stands in
    let is : (l : List ℕ) → l ≡ event_fault line why → l ≡ event_fault (k.number + 1) why = λ l e. e ∙ ap (λ n. event_fault n why) k.line_is in
    ended C schedule r k.text k.rest k.number last old mid new before between now Schedule res k.schedule_is s h
    (if_ok last (λ l. l ≡ event_fault line why) (λ l. IsLast C s.past s.state k.number k.rest l) (λ l e. inr (inr (why, k.refuses, is l e))) i)
    (if_ok last (λ l. l ≡ event_fault line why) (λ l. Reports C s.past s.state k.text k.number l old new → Replayed C schedule old new before now Schedule)
    (λ l e x. inr (record { past = s.past; state = s.state; text = k.text; rest = k.rest; schedule_is = k.schedule_is; number = k.number; why = why; refuses = k.refuses; reports = (let P : List ℕ → Type 0 = λ y. Reports C s.past s.state k.text k.number y old new in subst P (is l e) x) })) i) f

-- it stopped at the start
pub start_stopped : (C : configured.Config) (schedule : List ℕ) (old new : Option (List ℕ)) (why : Stop) → StopsAtStart C old new why → WritesFront C schedule old new
start_stopped C schedule old new (stop.Text line kind) k = absurd k
start_stopped C schedule old new (stop.Event line why) k = absurd k
start_stopped C schedule old new stop.WriteFault k = front_longer C [] schedule schedule old new refl k
start_stopped C schedule old new stop.Memory k = front_longer C [] schedule schedule old new refl k
