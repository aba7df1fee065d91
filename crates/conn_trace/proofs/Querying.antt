-- What may come and what is owed.
use Rattle.std.proofs.Common.{◌≡◌, refl, ap, ◌∙◌, List, [], ◌∷◌, ◌++◌, append-nil, true, ◌&&◌, not, Option, Some, None, option_map, unwrap_or}
use Rattle.std.proofs.Common.{Bool, true, false, subst, sym, true≢false, ⊎_elim}
use Rattle.std.proofs.lemmas.Bool.{and_parts}
use Rattle.conn_trace.specs.Item.{Item}
use Rattle.conn_trace.specs.Gates.{may_give, Counts, TakenCounts, other, sent_after}
use Rattle.conn_trace.specs.Gates.{sent_from, Met}
use Rattle.conn_trace.specs.Setup.{Setup}
use Rattle.conn_trace.specs.State.{Next, Does, Stream, ServerSide, NoServer, Sought, There}
use Rattle.conn_trace.specs.State.{Leaving, Retired, TraceState, stream_of, link_of}
use Rattle.conn_trace.specs.Trace.{next_item, Unfolds, GivesNoMore}
use Rattle.conn_trace.specs.Further.{Coming, Further, longer, longer_stream, longer_where}
use Rattle.conn_trace.specs.Further.{longer_server, left_for, on_last, coming_from}
use Rattle.conn_trace.specs.Laws.{GoesOn}
use Rattle.conn_trace.specs.Queries.{is_spent, took_all, last_made, own_stream, first_some, arriving, relays_at}
use Rattle.conn_trace.specs.Queries.{due_by, half_close_due}
use Rattle.conn_trace.proofs.Given.{sent_counted}
use Rattle.conn_trace.proofs.Unfolding.{agree}
use Rattle.px_bytes.specs.declared.addr.Side.{Side}
use Rattle.px_bytes.specs.declared.addr.Side.TheVariants.{Client, Server}
use Rattle.conn_trace.proofs.Streams.{grown, link_same}

last_longer : (c : Coming) (connects : List (Option Stream)) (s : Stream) → unwrap_or (last_made (on_last c connects)) (longer_where (left_for c connects) s) ≡ longer_stream c (unwrap_or (last_made connects) s)
last_longer c [] s = refl
last_longer c (None ∷ more) s = last_longer c more s
last_longer c (Some t ∷ more) s = last_longer c more t

arrives_by : (c : Coming) (connects : List (Option Stream)) (v : ServerSide)
    → first_some (last_made (on_last c connects)) (own_stream (longer_server (left_for c connects) v)) ≡ option_map (longer_stream c) (first_some (last_made connects) (own_stream v))
arrives_by c [] NoServer = refl
arrives_by c [] Sought = refl
arrives_by c [] (There s) = refl
arrives_by c [] (Leaving b s) = refl
arrives_by c [] (Retired s) = refl
arrives_by c (None ∷ more) v = arrives_by c more v
arrives_by c (Some s ∷ more) v = ap Some (last_longer c more s)

pub comes_where : (l : TraceState) (f : Further) (side : Side) → f.connects ≡ [] → arriving side (longer f l) ≡ option_map (longer_stream (coming_from side f)) (arriving side l)
comes_where l f Client none = refl
comes_where l f Server none =
    ap (λ x. first_some (last_made x) (own_stream (longer f l).server)) (ap (λ x. on_last f.server l.answers.connects ++ x) none ∙ append-nil _)
    ∙ arrives_by f.server l.answers.connects l.server

pub half_close_stays : (l : TraceState) (f : Further) (took : TakenCounts) (side : Side) → half_close_due l took side ≡ true → half_close_due (longer f l) took side ≡ true
half_close_stays l f took side is =
    let s = stream_of (other side) l in
    let owed = (and_parts (relays_at l.phase (link_of l.server) && not l.finished) _ is).1 in
    let spent = (and_parts (is_spent s l side) (took_all l took side) owed).0 in
    let ended = (and_parts s.ended _ (and_parts (s.ended && _) _ spent).0).0 in
    let same = (grown (other side) f l).ended ended in
    ap (λ k. due_by k (stream_of (other side) (longer f l)) l took side) (link_same f l) ∙ (ap (λ x. due_by (link_of l.server) x l took side) same ∙ is)

pub met_joins : (sent : Counts) (took : TakenCounts) (items more : List Item) → Met sent took items → Met (sent_from sent items) took more → Met sent took (items ++ more)
met_joins sent took [] more met rest = rest
met_joins sent took (i ∷ items) more met rest = (met.0, met_joins (sent_after i sent) took items more met.1 rest)

pub met_behind : (sent : Counts) (took : TakenCounts) (items more : List Item) → Met sent took (items ++ more) → Met (sent_from sent items) took more
met_behind sent took [] more met = met
met_behind sent took (i ∷ items) more met = met_behind (sent_after i sent) took items more met.1

-- no item may be given where no more is given
gives_none : (asleep : Bool) (sent : Counts) (took : TakenCounts) (o : Next) (i : Item) (m : TraceState) → o ≡ Does i m → GivesNoMore asleep sent took o → may_give i sent took ≡ false
gives_none asleep sent took o i m is none = subst (GivesNoMore asleep sent took) is none

pub given_is_due : (g : Setup) (l m n : TraceState) (took : TakenCounts) (asleep : Bool) (given others : List Item) → Unfolds g l given m → GivesNoMore asleep m.sent took (next_item g m)
    → Unfolds g l others n → Met l.sent took others → GoesOn g others n given m
given_is_due g l m n took asleep given others gave none unfolds met = ⊎_elim longer_one (λ on. on) (agree g l m n given others gave unfolds) where
  by_rest : (rest : List Item) → others ≡ given ++ rest → Unfolds g m rest n → GoesOn g others n given m
  by_rest [] is on = ([], sym (append-nil others ∙ (is ∙ append-nil given)), sym on)
  by_rest (i ∷ rest) is (mid, step, on) =
      let behind_met : Met (sent_from l.sent given) took (i ∷ rest) = met_behind l.sent took given (i ∷ rest) (subst (Met l.sent took) is met) in
      let now : may_give i m.sent took ≡ true = ap (λ s. may_give i s took) (sent_counted g l m given gave) ∙ behind_met.0 in
      absurd (true≢false (sym now ∙ gives_none asleep m.sent took (next_item g m) i mid step none))

  longer_one : GoesOn g given m others n → GoesOn g others n given m
  longer_one (rest, is, on) = by_rest rest is on
