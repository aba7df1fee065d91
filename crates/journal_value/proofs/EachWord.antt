-- Each side, reason, kind and verb is found by how it is written.
use Rattle.std.proofs.Common.{◌≡◌, ◌<◌, ◌^◌, Bool, true, false, find, Some, refl, lit<}
use Rattle.std.specs.Prelude.{◌==◌}
use Rattle.std.specs.Str.{bytes_eq}
use Rattle.core_events.specs.declared.note.CutReason.{CutReason}
use Rattle.core_events.specs.declared.note.CutReason.TheVariants.{ClientReset, ServerReset, Idle}
use Rattle.px_bytes.specs.declared.addr.Side.{Side}
use Rattle.px_bytes.specs.declared.addr.Side.TheVariants.{Client, Server}
use Rattle.px_bytes.specs.declared.fault.FaultKind.{FaultKind}
use Rattle.px_bytes.specs.declared.fault.FaultKind.TheVariants.{NoVariable, NoCommand, Arity}
use Rattle.px_bytes.specs.declared.fault.FaultKind.TheVariants.{NotWhole, OutOfRange, DivideByZero}
use Rattle.px_bytes.specs.declared.fault.FaultKind.TheVariants.{TooLong, TooDeep, Budget, Context}
use Rattle.px_bytes.specs.declared.fault.FaultKind.TheVariants.{Raised, Syntax, NoSuch, TableFull}
use Rattle.px_bytes.specs.declared.fault.HttpFault.{HttpFault}
use Rattle.px_bytes.specs.declared.fault.HttpFault.TheVariants as http
use Rattle.journal_text.specs.Notes.{cut_text, fault_number, http_number, kept_text, side_text}
use Rattle.journal_value.specs.Exact.{Anything}
use Rattle.journal_value.specs.Words.{every_http, every_kept, every_kind, every_reason, every_side, every_verb, verb_text}
use Rattle.journal_value.specs.declared.note_verb.NoteVerb.{NoteVerb}
use Rattle.journal_value.specs.declared.note_verb.NoteVerb.TheVariants as verb

pub each_verb : (v : NoteVerb) → Anything v → find (λ y. bytes_eq (verb_text y) (verb_text v)) every_verb ≡ Some v
each_verb verb.Connect any = refl
each_verb verb.Sleep any = refl
each_verb verb.History any = refl
each_verb verb.Log any = refl
each_verb verb.Pass any = refl
each_verb verb.Fired any = refl
each_verb verb.Reuse any = refl
each_verb verb.Finish any = refl
each_verb verb.HalfClose any = refl
each_verb verb.CloseServer any = refl
each_verb verb.CloseClient any = refl
each_verb verb.Ended any = refl

pub each_side : (s : Side) → Anything s → find (λ y. bytes_eq (side_text y) (side_text s)) every_side ≡ Some s
each_side Client any = refl
each_side Server any = refl

pub each_kept : (k : Bool) → Anything k → find (λ y. bytes_eq (kept_text y) (kept_text k)) every_kept ≡ Some k
each_kept true any = refl
each_kept false any = refl

pub each_reason : (r : CutReason) → Anything r → find (λ y. bytes_eq (cut_text y) (cut_text r)) every_reason ≡ Some r
each_reason ClientReset any = refl
each_reason ServerReset any = refl
each_reason Idle any = refl

pub each_kind : (k : FaultKind) → find (λ y. fault_number y == fault_number k) every_kind ≡ Some k
each_kind NoVariable = refl
each_kind NoCommand = refl
each_kind Arity = refl
each_kind NotWhole = refl
each_kind OutOfRange = refl
each_kind DivideByZero = refl
each_kind TooLong = refl
each_kind TooDeep = refl
each_kind Budget = refl
each_kind Context = refl
each_kind Raised = refl
each_kind Syntax = refl
each_kind NoSuch = refl
each_kind TableFull = refl

pub small_kind : (k : FaultKind) → fault_number k < 2 ^ 64
small_kind NoVariable = lit< tt
small_kind NoCommand = lit< tt
small_kind Arity = lit< tt
small_kind NotWhole = lit< tt
small_kind OutOfRange = lit< tt
small_kind DivideByZero = lit< tt
small_kind TooLong = lit< tt
small_kind TooDeep = lit< tt
small_kind Budget = lit< tt
small_kind Context = lit< tt
small_kind Raised = lit< tt
small_kind Syntax = lit< tt
small_kind NoSuch = lit< tt
small_kind TableFull = lit< tt

pub each_http : (f : HttpFault) → find (λ y. http_number y == http_number f) every_http ≡ Some f
each_http http.BadHead = refl
each_http http.LongHead = refl
each_http http.Host = refl
each_http http.Framing = refl
each_http http.BadChunk = refl
each_http http.ShortBody = refl
each_http http.Switching = refl
each_http http.Method = refl

pub small_http : (f : HttpFault) → http_number f < 2 ^ 64
small_http http.BadHead = lit< tt
small_http http.LongHead = lit< tt
small_http http.Host = lit< tt
small_http http.Framing = lit< tt
small_http http.BadChunk = lit< tt
small_http http.ShortBody = lit< tt
small_http http.Switching = lit< tt
small_http http.Method = lit< tt
