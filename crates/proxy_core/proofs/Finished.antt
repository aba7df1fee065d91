-- Whether a connection has finished: what was heard, its notes, and where its trace stands.
use Rattle.std.proofs.Common.{◌≡◌, refl, sym, ap, ◌∙◌, ℕ, List, [], ◌∷◌, ◌++◌, append-nil, map, Bool, true, false, ◌||◌, nat_eq, if◌then◌else◌}
use Rattle.std.proofs.lemmas.List.{map-append}
use Rattle.px_bytes.specs.declared.addr.Side.TheVariants.{Client, Server}
use Rattle.conn_trace.specs.Further.{is_some_of}
use Rattle.core_events.specs.declared.event_kind.EventKind.{EventKind}
use Rattle.core_events.specs.declared.event_kind.EventKind.TheVariants.{Accepts, Comes, Ticks}
use Rattle.core_events.specs.declared.event_kind.EventKind.TheVariants.{Turns, Runs, Marks}
use Rattle.core_events.specs.declared.input.Input.{Input}
use Rattle.core_events.specs.declared.input.Input.TheVariants.{Bytes, Ends, Resets, Connects, Takes}
use Rattle.conn_trace.specs.Heard.{Heard, accepts, marks, event_marks}
use Rattle.conn_trace.specs.Item.{cause_of, reasons_in}
use Rattle.conn_trace.specs.Phases.{Orderly}
use Rattle.conn_trace.specs.Tellings.{NoteTells, tells, own, notes_about, finish_told}
use Rattle.conn_trace.proofs.Stepping.{finishes_once}
use Rattle.core_events.specs.Kinds.{kind_of}
use Rattle.record_model.specs.Past.{Past, heard}
use Rattle.proxy_core.specs.Scheduler.{Seen}
use Rattle.record_model.specs.Setup.{setup_of, begins_at, stand_of}
use Rattle.proxy_core.specs.Shown.{causes_behind}
use Rattle.proxy_core.specs.Sound.{Served}
use Rattle.run_config.specs.declared.config.Config.{Config}
use Rattle.proxy_core.proofs.Sums.{finish_of_causes, some_causes}

-- by notes behind others
finish_on : (xs ys : List NoteTells) → finish_told (xs ++ ys) ≡ (finish_told xs || finish_told ys)
finish_on [] ys = refl
finish_on (t ∷ xs) ys = ap (λ b. t.finishes || b) (finish_on xs ys) ∙ or_assoc t.finishes (finish_told xs) (finish_told ys)
  where
    or_assoc : (a b c : Bool) → (a || (b || c)) ≡ ((a || b) || c)
    or_assoc true b c = refl
    or_assoc false b c = refl

marks_finish : (c : ℕ) (v : EventKind) (h : Heard) → h.finished ≡ finish_told (map tells h.notes) → (event_marks c v h).finished ≡ finish_told (map tells (event_marks c v h).notes)
marks_finish c (Accepts d vs from) h e = by_test (nat_eq d c)
  where
    by_test : (b : Bool) → (if b then accepts vs from h else h).finished ≡ finish_told (map tells (if b then accepts vs from h else h).notes)
    by_test true = e
    by_test false = e
marks_finish c (Comes d input) h e = by_test (nat_eq d c) input
  where
    by_test : (b : Bool) (i : Input) → (if b then marks i h else h).finished ≡ finish_told (map tells (if b then marks i h else h).notes)
    by_test false i = e
    by_test true (Bytes side bytes) = e
    by_test true (Ends side) = e
    by_test true (Resets Client) = e
    by_test true (Resets Server) = e
    by_test true (Connects made) = e
    by_test true (Takes Client n) = e
    by_test true (Takes Server n) = e
marks_finish c (Ticks moment) h e = e
marks_finish c Turns h e = e
marks_finish c Runs h e = e
marks_finish c (Marks pool member up) h e = e

pub heard_finish : (c : ℕ) (past : Past) → (heard c past).finished ≡ finish_told (map tells (heard c past).notes)
heard_finish c [] = refl
heard_finish c (x ∷ past) =
    let k = event_marks c (kind_of x.event) (heard c past) in
    ap (λ b. b || finish_told (notes_about c x.group)) (marks_finish c (kind_of x.event) (heard c past) (heard_finish c past))
    ∙ sym (finish_on (map tells k.notes) (notes_about c x.group)) ∙ ap finish_told (sym (map-append tells k.notes (own c x.group)))

-- the trace has finished where its notes say so, unless memory was wanted
pub trace_finished : (C : Config) (c : ℕ) (z : Seen) → Served C c z → z.heard.finished ≡ finish_told (map tells z.heard.notes) → z.heard.failed ≡ false → (stand_of C z.heard z.place).finished ≡ z.heard.finished
trace_finished C c z k told none =
    let f = finishes_once (setup_of C z.heard) (begins_at C z.heard).client (begins_at C z.heard).answers (stand_of C z.heard z.place) z.place k.stands in
    let causes = map cause_of (reasons_in z.place) in
    f.finished
    ∙ sym (told ∙ finish_of_causes z.heard.notes ∙ ap is_some_of (k.causes ∙ ap (λ b. causes ++ causes_behind b) none ∙ append-nil causes) ∙ some_causes cause_of (reasons_in z.place))

-- and is in order there
pub stands_orderly : (C : Config) (c : ℕ) (z : Seen) → Served C c z → Orderly (stand_of C z.heard z.place)
stands_orderly C c z k = (finishes_once (setup_of C z.heard) (begins_at C z.heard).client (begins_at C z.heard).answers (stand_of C z.heard z.place) z.place k.stands).orderly
