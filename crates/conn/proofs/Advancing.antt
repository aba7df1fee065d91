-- An action is the next items of each state that the connection may stand for.
use Rattle.std.proofs.Common.{◌≡◌, inl, inr, refl, sym, ap, subst, ◌∙◌, ℕ, ◌+◌, List, [], ◌∷◌, ◌++◌, append-nil, drop, Bool, true, false, Option, Some, None}
use Rattle.std.specs.Bool.{MatchBool}
use Rattle.px_bytes.specs.declared.addr.Addr.{Addr}
use Rattle.px_bytes.specs.declared.addr.Side.TheVariants.{Server}
use Rattle.http_heads.specs.Fronts.{head_part}
use Rattle.core_events.specs.Edges.{edges_noted}
use Rattle.conn_trace.specs.Setup.{Handler, Setup}
use Rattle.conn_trace.specs.State.{TraceState}
use Rattle.core_events.specs.declared.note.CutReason.{CutReason}
use Rattle.core_events.specs.declared.note.Note.{Note}
use Rattle.core_events.specs.declared.note.Note.TheVariants as note
use Rattle.conn_trace.specs.Relay.{meets}
use Rattle.conn.specs.Acted.{Acted, ActedAt}
use Rattle.conn.specs.Acts.{cut_by}
use Rattle.conn.specs.Acts.{AnswersBy, CollectsBy, PassesGate, PassesReleased, RelaysBy, Rests, RestsBy, cut_of, has_room, Connects, ConnectsNext}
use Rattle.conn.specs.Acts.{client_room, dropped}
use Rattle.conn.specs.Changes.{StartsBody}
use Rattle.conn.specs.Choosing.{ChoosesBy, plan_of}
use Rattle.conn.specs.Events.{event_of}
use Rattle.conn.specs.Holds.{Around, Holds, RunsFirst, Stands}
use Rattle.conn.specs.Relaying.{Releases, relay_plan, round_begun}
use Rattle.conn.specs.Setups.{body_at, Serves}
use Rattle.conn.specs.Stages.{cause_for, http_in, is_asking}
use Rattle.conn.specs.Steps.{BodyMovedBy, GoesOn, said_of}
use Rattle.conn.specs.declared.body_step.Said.{Said}
use Rattle.conn.specs.declared.body_step.Said.TheVariants as said
use Rattle.conn.specs.declared.connection.Conn.{Conn}
use Rattle.conn.specs.declared.ends.Link.{Link}
use Rattle.conn.specs.declared.ends.Link.TheVariants as link
use Rattle.conn.specs.declared.events.At.{At}
use Rattle.conn.specs.declared.events.At.TheVariants as event
use Rattle.conn.specs.declared.relay.Relay.{Relay}
use Rattle.conn.specs.declared.relay.Relay.TheVariants as relay
use Rattle.conn.specs.declared.select.Plan.{Plan}
use Rattle.conn.specs.declared.select.Plan.TheVariants as plan
use Rattle.conn.specs.Choosing.{ChoosesBy, plan_of}
use Rattle.conn.specs.declared.select.Plan.{Plan}
use Rattle.conn.specs.declared.select.Plan.TheVariants as plan
use Rattle.conn.specs.declared.setup.Setup as code_setup
use Rattle.conn.specs.declared.stage.Stage.{Stage}
use Rattle.conn.specs.declared.stage.Stage.TheVariants as stage
use Rattle.conn.specs.declared.turn.Act as step_act
use Rattle.conn.specs.declared.turn.Act.TheVariants as done
use Rattle.conn.proofs.Acting.{ActGave}
use Rattle.conn.proofs.Answering.{tells, tells_noted}
use Rattle.conn.proofs.BodyMoves.{body_gives, step_notes}
use Rattle.conn.proofs.Dropped.{drops, front_group, front_noted, left_front}
use Rattle.conn.proofs.RequestActs.{GoesOrRests, drops_or, head_or, tells_or}
use Rattle.conn.proofs.Requesting.{head_group, head_noted, heads}
use Rattle.conn.proofs.Choosing.{chooses, chosen}
use Rattle.conn.proofs.Collecting.{collect_group, collect_noted, collects}
use Rattle.conn.proofs.Releasing.{release_noted, releases, server_room}
use Rattle.conn.proofs.Gating.{drains, finishing, gate, gate_group, gate_noted, logs}
use Rattle.conn.proofs.Linking.{answer_group, answer_noted, answers, connects, connect_group, connect_noted}
use Rattle.conn.proofs.Passing.{relay_group, relay_noted, relays}
use Rattle.conn.proofs.Places.{none_here}
use Rattle.seg_buffer.specs.Bytes.{is_empty}
use Rattle.conn.specs.Queues.{queue_in}
use Rattle.conn.proofs.Telling.{Tells, answer_tells, chooses_tells, chosen_tells, closes_ends, collect_tells, connect_tells, ends_tell, fault_ends, front_tells, gate_tells, head_tells, next_ends, relay_tells, release_tells, steps_tell, told_tells, forwards_edges, heading_tells, interims_edges, part_tells, reply_tells}
use Rattle.conn.specs.Forwarding.{answer_of, ends_room, part_at}
use Rattle.conn.specs.Messages.{is_whole, passed_to, with_ends}
use Rattle.conn.specs.Servers.{closed_notes}
use Rattle.conn.proofs.Reusing.{gives_up, retires, reuses}
use Rattle.conn.proofs.Responding.{reads_response, response_noted, answer_group as reply_group}
use Rattle.conn.specs.Gathering.{gathered_to, part_there}
use Rattle.conn.proofs.GatherFronts.{gathered_group, gathers_body, gathers_noted, gathers_or, gathers_tells}
use Rattle.conn.proofs.Sending.{forwards_body, forwards_noted, heading_noted, part_group, sends_head}
use Rattle.conn.proofs.RequestActs.{answers_or, forwards_or, heading_or}

-- what one action gave, with its notes
pub record ActedWell (s : code_setup.Setup) (c : ℕ) (old new : Conn) (before after : List Note) (did : step_act.Act) : Type 0 where
  pub group : List Note
  pub notes : after ≡ before ++ group
  pub tells : Tells group old new
  pub along : (g : Setup) (a : Around) (l : TraceState) → Serves s g → Holds g a l old → is_asking old.stage ≡ false → ActGave g a l c old new group did

pub acted_well : (s : code_setup.Setup) (c : ℕ) (old new : Conn) (before after : List Note) (did : step_act.Act) (ticks : ℕ) → Acted s c old new before after did ticks → ActedWell s c old new before after did
acted_well s c old new before after did ticks k = by_stage old.stage refl k
  where
    here : (st : Stage) → old.stage ≡ st → (g : Setup) (a : Around) (l : TraceState) → Holds g a l old → Stands g st l old
    here st is g a l h = subst (λ x. Stands g x l old) is h.stage

    none : after ≡ before → after ≡ before ++ []
    none e = e ∙ sym (append-nil before)

    as_goes : did ≡ done.Goes → (g : Setup) (a : Around) (l : TraceState) (group : List Note) → ActGave g a l c old new group done.Goes → ActGave g a l c old new group did
    as_goes e g a l group x = subst (λ d. ActGave g a l c old new group d) (sym e) x

    asleep : (st : Stage) → old.stage ≡ st → is_asking st ≡ true → new ≡ old → after ≡ before → ActedWell s c old new before after did
    asleep st is asks same quiet = record { group = []; notes = none quiet; tells = ap (λ x. x.ends.edges) same; along = λ g a l serves h awake. absurd (let e = sym awake ∙ ap is_asking is ∙ asks in cc) }

    by_stage : (st : Stage) → old.stage ≡ st → ActedAt st s c old new before after did ticks → ActedWell s c old new before after did
    by_stage (stage.Gated at) is k = record {
      group = gate_group (has_room old) c (cut_of old);
      notes = gate_noted s c at old new before after did k;
      tells = gate_tells s c at old new before after did k;
      along = λ g a l serves h awake. gate s g serves a l c old new h at before after did is (here (stage.Gated at) is g a l h) k;
    }
    by_stage (stage.Running at n) is k = by_handler (body_at s at n) refl k
      where
        by_handler : (v : Option Handler) → body_at s at n ≡ v → BodyMovedBy s v c at n old new before after did ticks → ActedWell s c old new before after did
        by_handler None e m = record {
          group = [];
          notes = none m.2;
          tells = ap (λ x. x.ends.edges) m.1;
          along = λ g a l serves h awake.
              (let none_left : drop n (g.handlers (event_of at)) ≡ [] = none_here (g.handlers (event_of at)) n (serves.each (event_of at) n ∙ e) in
              let st = here (stage.Running at n) is g a l h in
              absurd (subst (λ hs. RunsFirst g (event_of at) hs 0 l old) none_left st.0));
        }
        by_handler (Some b) e m = record {
          group = step_notes m;
          notes = m.does.noted;
          tells = steps_tell s b c at n old new before after did ticks m;
          along = λ g a l serves h awake. (body_gives s g serves a l c old new at n b before after did ticks e m is h).act;
        }
    by_stage (stage.Asking at n) is (rests, same, quiet) = asleep (stage.Asking at n) is refl same quiet
    by_stage stage.Selecting is (rests, same, quiet) = asleep stage.Selecting is refl same quiet
    by_stage (stage.Failing at n kind line) is (e, k, notes) = record {
      group = note.Log c line ∷ [];
      notes = notes;
      tells = ends_tell old new (fault_ends s at n kind old new k);
      along = λ g a l serves h awake. as_goes e g a l (note.Log c line ∷ []) (logs s g serves a l c old new h at n kind line is (here (stage.Failing at n kind line) is g a l h) k);
    }
    by_stage stage.Choosing is (k, quiet) = record {
      group = [];
      notes = none quiet;
      tells = chooses_tells s (plan_of old.host.net) old new did k;
      along = λ g a l serves h awake. chooses s g serves a l c old new h did is (here stage.Choosing is g a l h) k;
    }
    by_stage (stage.Chosen addr) is (e, k, quiet) = record {
      group = [];
      notes = none quiet;
      tells = chosen_tells s addr old new k;
      along = λ g a l serves h awake. as_goes e g a l [] (chosen s g serves a l c old new h addr is (here (stage.Chosen addr) is g a l h) k);
    }
    by_stage (stage.Connecting to) is k = record {
      group = connect_group (is_empty (queue_in Server old)) c to (cut_of old);
      notes = connect_noted s c to old new before after did k;
      tells = connect_tells s c to old new before after did k;
      along = λ g a l serves h awake. connects s g serves a l c old new h to before after did is (here (stage.Connecting to) is g a l h) k;
    }
    by_stage (stage.Answering to) is k = record {
      group = answer_group old.ends.link c (cut_of old);
      notes = answer_noted s c old.ends.link old new before after did k;
      tells = answer_tells s c old.ends.link old new before after did k;
      along = λ g a l serves h awake. answers s g serves a l c old new h to before after did is (here (stage.Answering to) is g a l h) k;
    }
    by_stage stage.Collecting is k = record {
      group = collect_group (meets old.host.net.client.asks old.ends.client.unread) c (cut_of old);
      notes = collect_noted s c (meets old.host.net.client.asks old.ends.client.unread) old new before after did k;
      tells = collect_tells s c (meets old.host.net.client.asks old.ends.client.unread) old new before after did k;
      along = λ g a l serves h awake. collects s g serves a l c old new h is (here stage.Collecting is g a l h) before after did k;
    }
    by_stage stage.AtHead is (spoken, k) = record {
      group = head_group c old (head_part old.ends.client.unread old.ends.client.ended);
      notes = head_noted s c old new before after did (head_part old.ends.client.unread old.ends.client.ended) k;
      tells = head_tells s c old new before after did (head_part old.ends.client.unread old.ends.client.ended) k;
      along = λ g a l serves h awake. heads s g serves a l c old new h is (here stage.AtHead is g a l h) spoken before after did k;
    }
    by_stage stage.Continuing is (spoken, k) = record {
      group = gate_group (client_room old) c (cut_of old);
      notes = tells_noted s c old new before after did k;
      tells = told_tells s c old new before after did k;
      along = λ g a l serves h awake. tells s g serves a l c old new h is (here stage.Continuing is g a l h) spoken before after did k;
    }
    by_stage (stage.Gathering side wanted reader) is (spoken, k) = record {
      group = gathered_group (part_there side k.to) side c (gathered_to side k.to old);
      notes = gathers_noted s c side wanted reader old new before after did k;
      tells = gathers_tells s c side wanted reader old new before after did k;
      along = λ g a l serves h awake. gathers_body s g serves a l c old new h spoken side wanted reader is before after did k;
    }
    by_stage stage.AtReuse is (e, k) = record {
      group = note.Reuse c (is_whole old.ends.server) ∷ [];
      notes = k.noted;
      tells = ap (λ x. x.edges) k.becomes.ends;
      along = λ g a l serves h awake. as_goes e g a l (note.Reuse c (is_whole old.ends.server) ∷ []) (reuses s g serves a l c old new h before after is (here stage.AtReuse is g a l h) k);
    }
    by_stage (stage.GivingUp w) is (e, k, quiet) = record {
      group = [];
      notes = none quiet;
      tells = ap (λ x. x.edges) (next_ends s event.Leaving 0 k.mid new k.goes ∙ k.ends);
      along = λ g a l serves h awake. as_goes e g a l [] (gives_up s g serves a l c old new h w is (here (stage.GivingUp w) is g a l h) k);
    }
    by_stage (stage.Retiring w) is (e, k) = record {
      group = closed_notes c (is_empty (queue_in Server old));
      notes = k.noted;
      tells = ap (λ x. x.edges) k.becomes.ends;
      along = λ g a l serves h awake. as_goes e g a l (closed_notes c (is_empty (queue_in Server old))) (retires s g serves a l c old new h w before after is (here (stage.Retiring w) is g a l h) k);
    }
    by_stage (stage.Heading side) is (spoken, k) = record {
      group = gate_group (ends_room side old.ends) c (cut_of old);
      notes = heading_noted s c side old new before after did k;
      tells = heading_tells s c side old new before after did k;
      along = λ g a l serves h awake. sends_head s g serves a l c old new h side is (here (stage.Heading side) is g a l h) spoken before after did k;
    }
    by_stage (stage.Forwarding side reader standing) is (spoken, k) = record {
      group = part_group (part_at side k.to) side k.to.at.reader c (passed_to side k.to old);
      notes = forwards_noted s c side reader standing old new before after did k;
      tells = part_tells s c (passed_to side k.to old) new before after did side k.to.at.reader k.to.at.standing (part_at side k.to) k.goes ∙ ap (edges_noted (part_group (part_at side k.to) side k.to.at.reader c (passed_to side k.to old))) (forwards_edges side _ k.to k.passes);
      along = λ g a l serves h awake. forwards_body s g serves a l c old new h spoken side reader standing is before after did k;
    }
    by_stage stage.AtResponse is (spoken, k) = record {
      group = reply_group (answer_of (http_in old.host).came k.to.server) c (with_ends k.to old);
      notes = response_noted s c old new before after did k;
      tells = reply_tells s c (with_ends k.to old) new before after did (answer_of (http_in old.host).came k.to.server) k.goes ∙ ap (edges_noted (reply_group (answer_of (http_in old.host).came k.to.server) c (with_ends k.to old))) (interims_edges (http_in old.host).came old.ends k.to k.passes);
      along = λ g a l serves h awake. reads_response s g serves a l c old new h is spoken before after did k;
    }
    by_stage (stage.Dropping reader) is (spoken, k) = record {
      group = front_group c (dropped k.left k.size old) (left_front reader s c old new before after did k);
      notes = front_noted s c (dropped k.left k.size old) new before after did (left_front reader s c old new before after did k) k.goes;
      tells = front_tells s c (dropped k.left k.size old) new before after did (left_front reader s c old new before after did k) k.goes;
      along = λ g a l serves h awake. drops s g serves a l c old new h reader is (here (stage.Dropping reader) is g a l h) spoken before after did k;
    }
    by_stage stage.Releasing is k = record {
      group = gate_group (server_room old) c (cut_of old);
      notes = release_noted s c old new before after did k;
      tells = release_tells s c old new before after did k;
      along = λ g a l serves h awake. releases s g serves a l c old new h is (here stage.Releasing is g a l h) before after did k;
    }
    by_stage (stage.Relaying first) is k = record {
      group = relay_group (relay_plan first old.host.net old.ends) c (cut_of (round_begun old));
      notes = relay_noted s c (relay_plan first old.host.net old.ends) old new before after did k;
      tells = relay_tells s c (relay_plan first old.host.net old.ends) old new before after did k;
      along = λ g a l serves h awake. relays s g serves a l c old new h first is (here (stage.Relaying first) is g a l h) before after did k;
    }
    by_stage (stage.Finishing f) is (e, k) = record {
      group = note.Finish c (cause_for f) ∷ [];
      notes = k.1;
      tells = ends_tell old new (closes_ends s old new k.0);
      along = λ g a l serves h awake. as_goes e g a l (note.Finish c (cause_for f) ∷ []) (finishing s g serves a l c old new h f before after is (here (stage.Finishing f) is g a l h) k);
    }
    by_stage stage.Draining is (rests, same, quiet) = record {
      group = [];
      notes = none quiet;
      tells = ap (λ x. x.ends.edges) same;
      along = λ g a l serves h awake. drains s g serves a l c old new h did is (here stage.Draining is g a l h) rests same;
    }
    by_stage stage.OutOfMemory is (rests, same, quiet) = record { group = []; notes = none quiet; tells = ap (λ x. x.ends.edges) same; along = λ g a l serves h awake. absurd (here stage.OutOfMemory is g a l h) }
    by_stage (stage.Dropped n) is (rests, same, quiet) = record { group = []; notes = none quiet; tells = ap (λ x. x.ends.edges) same; along = λ g a l serves h awake. absurd (here (stage.Dropped n) is g a l h) }

-- where it rests nothing is noted
rest_quiet : (s : code_setup.Setup) (c : ℕ) (old new : Conn) (before after : List Note) (o : Option CutReason) → RestsBy o s c old new before after done.Rests → after ≡ before
rest_quiet s c old new before after None k = k.2
rest_quiet s c old new before after (Some reason) k = absurd (let e = k.0 in cc)

or_quiet : (s : code_setup.Setup) (c : ℕ) (base new : Conn) (before after : List Note) → GoesOrRests s c base new before after done.Rests → after ≡ before
or_quiet s c base new before after (inl goes) = absurd (let e = goes in cc)
or_quiet s c base new before after (inr (w, k)) = rest_quiet s c base new before after (cut_by w base) k

answer_quiet : (s : code_setup.Setup) (c : ℕ) (k : Link) (old new : Conn) (before after : List Note) → AnswersBy k s c old new before after done.Rests → after ≡ before
answer_quiet s c link.Made old new before after k = k.2
answer_quiet s c link.Refused old new before after k = k.2
answer_quiet s c link.Absent old new before after k = rest_quiet s c old new before after (cut_of old) k
answer_quiet s c link.Asked old new before after k = rest_quiet s c old new before after (cut_of old) k
answer_quiet s c link.Up old new before after k = rest_quiet s c old new before after (cut_of old) k
answer_quiet s c link.GivenUp old new before after k = rest_quiet s c old new before after (cut_of old) k
answer_quiet s c (link.Leaving w) old new before after k = rest_quiet s c old new before after (cut_of old) k

connect_quiet : (s : code_setup.Setup) (c : ℕ) (to : Addr) (old new : Conn) (before after : List Note) → ConnectsNext s c to old new before after done.Rests → after ≡ before
connect_quiet s c to old new before after k = by_test (is_empty (queue_in Server old)) k
  where
    by_test : (b : Bool) → MatchBool b ((done.Rests ≡ done.Goes) × Connects c to old new before after) (Rests s c old new before after done.Rests) → after ≡ before
    by_test true k = absurd (let e = k.0 in cc)
    by_test false k = rest_quiet s c old new before after (cut_of old) k

relay_quiet : (s : code_setup.Setup) (c : ℕ) (p : Relay) (old new : Conn) (before after : List Note) → RelaysBy p s c old new before after done.Rests → after ≡ before
relay_quiet s c relay.Done old new before after k = absurd (let e = k.0 in cc)
relay_quiet s c (relay.Pass side n) old new before after k = absurd (let e = k.0 in cc)
relay_quiet s c (relay.Fire side n) old new before after k = absurd (let e = k.0 in cc)
relay_quiet s c relay.Rest old new before after k = rest_quiet s c (round_begun old) new before after (cut_of (round_begun old)) k

collect_quiet : (s : code_setup.Setup) (c : ℕ) (o : Option ℕ) (old new : Conn) (before after : List Note) → CollectsBy o s c old new before after done.Rests → after ≡ before
collect_quiet s c None old new before after k = rest_quiet s c old new before after (cut_of old) k
collect_quiet s c (Some n) old new before after k = absurd (let e = k.0 in cc)

release_quiet : (s : code_setup.Setup) (c : ℕ) (old new : Conn) (before after : List Note) → PassesReleased s c old new before after done.Rests → after ≡ before
release_quiet s c old new before after k = by_test (server_room old) k
  where
    by_test : (b : Bool) → MatchBool b ((done.Rests ≡ done.Goes) × Releases old new × (after ≡ before)) (Rests s c old new before after done.Rests) → after ≡ before
    by_test true k = k.2
    by_test false k = rest_quiet s c old new before after (cut_of old) k

gate_quiet : (s : code_setup.Setup) (c : ℕ) (at : At) (old new : Conn) (before after : List Note) → PassesGate s c at old new before after done.Rests → after ≡ before
gate_quiet s c at old new before after k = by_test (has_room old) k
  where
    by_test : (b : Bool) → MatchBool b ((done.Rests ≡ done.Goes) × StartsBody s at 0 old new × (after ≡ before)) (Rests s c old new before after done.Rests) → after ≡ before
    by_test true k = k.2
    by_test false k = rest_quiet s c old new before after (cut_of old) k

said_quiet : (s : code_setup.Setup) (at : At) (n : ℕ) (x : Said) (mid new : Conn) → GoesOn s at n x mid new done.Rests → ⊥
said_quiet s at n said.More mid new k = let e = k.0 in cc
said_quiet s at n (said.Asks call) mid new k = let e = k.0 in cc
said_quiet s at n said.Over mid new k = let e = k.0 in cc
said_quiet s at n (said.Fails kind line) mid new k = let e = k.0 in cc

pub rests_quiet : (s : code_setup.Setup) (c : ℕ) (old new : Conn) (before after : List Note) (ticks : ℕ) → Acted s c old new before after done.Rests ticks → after ≡ before
rests_quiet s c old new before after ticks k = by_stage old.stage k
  where
    by_handler : (at : At) (n : ℕ) (v : Option Handler) → BodyMovedBy s v c at n old new before after done.Rests ticks → after ≡ before
    by_handler at n None m = m.2
    by_handler at n (Some b) m = absurd (said_quiet s at n (said_of b at m.turned) m.mid new m.goes_on)

    by_stage : (st : Stage) → ActedAt st s c old new before after done.Rests ticks → after ≡ before
    by_stage (stage.Gated at) k = gate_quiet s c at old new before after k
    by_stage (stage.Running at n) k = by_handler at n (body_at s at n) k
    by_stage (stage.Asking at n) k = k.2
    by_stage stage.Selecting k = k.2
    by_stage (stage.Failing at n kind line) k = absurd (let e = k.0 in cc)
    by_stage stage.Choosing k = k.1
    by_stage (stage.Chosen addr) k = k.2
    by_stage (stage.Connecting to) k = connect_quiet s c to old new before after k
    by_stage (stage.Answering to) k = answer_quiet s c old.ends.link old new before after k
    by_stage stage.Collecting k = collect_quiet s c (meets old.host.net.client.asks old.ends.client.unread) old new before after k
    by_stage stage.AtHead (spoken, k) = or_quiet s c old new before after (head_or s c old new before after done.Rests (head_part old.ends.client.unread old.ends.client.ended) k)
    by_stage stage.Continuing (spoken, k) = or_quiet s c old new before after (tells_or s c old new before after done.Rests k)
    by_stage (stage.Gathering side wanted reader) (spoken, k) = or_quiet s c (gathered_to side k.to old) new before after (gathers_or s c side wanted reader old new before after done.Rests k)
    by_stage stage.AtReuse k = absurd (let e = k.0 in cc)
    by_stage (stage.GivingUp w) k = absurd (let e = k.0 in cc)
    by_stage (stage.Retiring w) k = absurd (let e = k.0 in cc)
    by_stage (stage.Heading side) (spoken, k) = or_quiet s c old new before after (heading_or s c old new before after done.Rests side k)
    by_stage (stage.Forwarding side reader standing) (spoken, k) = or_quiet s c (passed_to side k.to old) new before after (forwards_or s c old new before after done.Rests side reader standing k)
    by_stage stage.AtResponse (spoken, k) = or_quiet s c (with_ends k.to old) new before after (answers_or s c old new before after done.Rests k)
    by_stage (stage.Dropping reader) (spoken, k) = or_quiet s c (dropped k.left k.size old) new before after (drops_or s c reader old new before after done.Rests k)
    by_stage stage.Releasing k = release_quiet s c old new before after k
    by_stage (stage.Relaying first) k = relay_quiet s c (relay_plan first old.host.net old.ends) old new before after k
    by_stage (stage.Finishing f) k = absurd (let e = k.0 in cc)
    by_stage stage.Draining k = k.2
    by_stage stage.OutOfMemory k = k.2
    by_stage (stage.Dropped n) k = k.2

-- and nothing changes
rest_same : (s : code_setup.Setup) (c : ℕ) (old new : Conn) (before after : List Note) (o : Option CutReason) → RestsBy o s c old new before after done.Rests → new ≡ old
rest_same s c old new before after None k = k.1
rest_same s c old new before after (Some reason) k = absurd (let e = k.0 in cc)

or_same : (s : code_setup.Setup) (c : ℕ) (base new : Conn) (before after : List Note) → GoesOrRests s c base new before after done.Rests → new ≡ base
or_same s c base new before after (inl goes) = absurd (let e = goes in cc)
or_same s c base new before after (inr (w, k)) = rest_same s c base new before after (cut_by w base) k

answer_same : (s : code_setup.Setup) (c : ℕ) (k : Link) (old new : Conn) (before after : List Note) → AnswersBy k s c old new before after done.Rests → new ≡ old
answer_same s c link.Made old new before after k = absurd (let e = k.0 in cc)
answer_same s c link.Refused old new before after k = absurd (let e = k.0 in cc)
answer_same s c link.Absent old new before after k = rest_same s c old new before after (cut_of old) k
answer_same s c link.Asked old new before after k = rest_same s c old new before after (cut_of old) k
answer_same s c link.Up old new before after k = rest_same s c old new before after (cut_of old) k
answer_same s c link.GivenUp old new before after k = rest_same s c old new before after (cut_of old) k
answer_same s c (link.Leaving w) old new before after k = rest_same s c old new before after (cut_of old) k

connect_same : (s : code_setup.Setup) (c : ℕ) (to : Addr) (old new : Conn) (before after : List Note) → ConnectsNext s c to old new before after done.Rests → new ≡ old
connect_same s c to old new before after k = by_test (is_empty (queue_in Server old)) k
  where
    by_test : (b : Bool) → MatchBool b ((done.Rests ≡ done.Goes) × Connects c to old new before after) (Rests s c old new before after done.Rests) → new ≡ old
    by_test true k = absurd (let e = k.0 in cc)
    by_test false k = rest_same s c old new before after (cut_of old) k

-- but the turn of a relay
relay_same : (s : code_setup.Setup) (c : ℕ) (p : Relay) (old new : Conn) (before after : List Note) → RelaysBy p s c old new before after done.Rests → new ≡ round_begun old
relay_same s c relay.Done old new before after k = absurd (let e = k.0 in cc)
relay_same s c (relay.Pass side n) old new before after k = absurd (let e = k.0 in cc)
relay_same s c (relay.Fire side n) old new before after k = absurd (let e = k.0 in cc)
relay_same s c relay.Rest old new before after k = rest_same s c (round_begun old) new before after (cut_of (round_begun old)) k

collect_same : (s : code_setup.Setup) (c : ℕ) (o : Option ℕ) (old new : Conn) (before after : List Note) → CollectsBy o s c old new before after done.Rests → new ≡ old
collect_same s c None old new before after k = rest_same s c old new before after (cut_of old) k
collect_same s c (Some n) old new before after k = absurd (let e = k.0 in cc)

release_same : (s : code_setup.Setup) (c : ℕ) (old new : Conn) (before after : List Note) → PassesReleased s c old new before after done.Rests → new ≡ old
release_same s c old new before after k = by_test (server_room old) k
  where
    by_test : (b : Bool) → MatchBool b ((done.Rests ≡ done.Goes) × Releases old new × (after ≡ before)) (Rests s c old new before after done.Rests) → new ≡ old
    by_test true k = absurd (let e = k.0 in cc)
    by_test false k = rest_same s c old new before after (cut_of old) k

gate_same : (s : code_setup.Setup) (c : ℕ) (at : At) (old new : Conn) (before after : List Note) → PassesGate s c at old new before after done.Rests → new ≡ old
gate_same s c at old new before after k = by_test (has_room old) k
  where
    by_test : (b : Bool) → MatchBool b ((done.Rests ≡ done.Goes) × StartsBody s at 0 old new × (after ≡ before)) (Rests s c old new before after done.Rests) → new ≡ old
    by_test true k = absurd (let e = k.0 in cc)
    by_test false k = rest_same s c old new before after (cut_of old) k

-- so no call is opened
pub rests_asking : (s : code_setup.Setup) (c : ℕ) (old new : Conn) (before after : List Note) (ticks : ℕ) → Acted s c old new before after done.Rests ticks → is_asking new.stage ≡ is_asking old.stage
rests_asking s c old new before after ticks k = by_stage old.stage refl k
  where
    as_before : new ≡ old → is_asking new.stage ≡ is_asking old.stage
    as_before same = ap (λ x. is_asking x.stage) same

    choose_goes : (p : Plan) → ChoosesBy p s old new done.Rests → ⊥
    choose_goes plan.Nothing k = let e = k.0 in cc
    choose_goes (plan.Node addr) k = let e = k.0 in cc
    choose_goes (plan.Member pool only) k = let e = k.asks in cc

    by_handler : (at : At) (n : ℕ) (v : Option Handler) → BodyMovedBy s v c at n old new before after done.Rests ticks → new ≡ old
    by_handler at n None m = m.1
    by_handler at n (Some b) m = absurd (said_quiet s at n (said_of b at m.turned) m.mid new m.goes_on)

    by_stage : (st : Stage) → old.stage ≡ st → ActedAt st s c old new before after done.Rests ticks → is_asking new.stage ≡ is_asking old.stage
    by_stage (stage.Gated at) is k = as_before (gate_same s c at old new before after k)
    by_stage (stage.Running at n) is k = as_before (by_handler at n (body_at s at n) k)
    by_stage (stage.Asking at n) is k = as_before k.1
    by_stage stage.Selecting is k = as_before k.1
    by_stage (stage.Failing at n kind line) is k = absurd (let e = k.0 in cc)
    by_stage stage.Choosing is k = absurd (choose_goes (plan_of old.host.net) k.0)
    by_stage (stage.Chosen addr) is k = absurd (let e = k.0 in cc)
    by_stage (stage.Connecting to) is k = as_before (connect_same s c to old new before after k)
    by_stage (stage.Answering to) is k = as_before (answer_same s c old.ends.link old new before after k)
    by_stage stage.Collecting is k = as_before (collect_same s c (meets old.host.net.client.asks old.ends.client.unread) old new before after k)
    by_stage stage.AtHead is (spoken, k) = as_before (or_same s c old new before after (head_or s c old new before after done.Rests (head_part old.ends.client.unread old.ends.client.ended) k))
    by_stage stage.Continuing is (spoken, k) = as_before (or_same s c old new before after (tells_or s c old new before after done.Rests k))
    by_stage (stage.Gathering side wanted reader) is (spoken, k) = ap (λ x. is_asking x.stage) (or_same s c (gathered_to side k.to old) new before after (gathers_or s c side wanted reader old new before after done.Rests k)) ∙ sym (ap is_asking is)
    by_stage stage.AtReuse is k = absurd (let e = k.0 in cc)
    by_stage (stage.GivingUp w) is k = absurd (let e = k.0 in cc)
    by_stage (stage.Retiring w) is k = absurd (let e = k.0 in cc)
    by_stage (stage.Heading side) is (spoken, k) = as_before (or_same s c old new before after (heading_or s c old new before after done.Rests side k))
    by_stage (stage.Forwarding side reader standing) is (spoken, k) = ap (λ x. is_asking x.stage) (or_same s c (passed_to side k.to old) new before after (forwards_or s c old new before after done.Rests side reader standing k)) ∙ sym (ap is_asking is)
    by_stage stage.AtResponse is (spoken, k) = ap (λ x. is_asking x.stage) (or_same s c (with_ends k.to old) new before after (answers_or s c old new before after done.Rests k))
    by_stage (stage.Dropping reader) is (spoken, k) =
        ap (λ x. is_asking x.stage) (or_same s c (dropped k.left k.size old) new before after (drops_or s c reader old new before after done.Rests k)) ∙ sym (ap is_asking is)
    by_stage stage.Releasing is k = as_before (release_same s c old new before after k)
    by_stage (stage.Relaying first) is k = ap (λ x. is_asking x.stage) (relay_same s c (relay_plan first old.host.net old.ends) old new before after k) ∙ sym (ap is_asking is)
    by_stage (stage.Finishing f) is k = absurd (let e = k.0 in cc)
    by_stage stage.Draining is k = as_before k.1
    by_stage stage.OutOfMemory is k = as_before k.1
    by_stage (stage.Dropped n) is k = as_before k.1

-- an action that makes a call waits for its reply
rest_asks_not : (s : code_setup.Setup) (c : ℕ) (old new : Conn) (before after : List Note) (call : List (List ℕ)) (o : Option CutReason) → RestsBy o s c old new before after (done.Asks call) → ⊥
rest_asks_not s c old new before after call None k = let e = k.0 in cc
rest_asks_not s c old new before after call (Some reason) k = let e = k.0 in cc

or_asks_not : (s : code_setup.Setup) (c : ℕ) (base new : Conn) (before after : List Note) (call : List (List ℕ)) → GoesOrRests s c base new before after (done.Asks call) → ⊥
or_asks_not s c base new before after call (inl goes) = let e = goes in cc
or_asks_not s c base new before after call (inr (w, k)) = rest_asks_not s c base new before after call (cut_by w base) k

answer_asks_not : (s : code_setup.Setup) (c : ℕ) (k : Link) (old new : Conn) (before after : List Note) (call : List (List ℕ)) → AnswersBy k s c old new before after (done.Asks call) → ⊥
answer_asks_not s c link.Made old new before after call k = let e = k.0 in cc
answer_asks_not s c link.Refused old new before after call k = let e = k.0 in cc
answer_asks_not s c link.Absent old new before after call k = rest_asks_not s c old new before after call (cut_of old) k
answer_asks_not s c link.Asked old new before after call k = rest_asks_not s c old new before after call (cut_of old) k
answer_asks_not s c link.Up old new before after call k = rest_asks_not s c old new before after call (cut_of old) k
answer_asks_not s c link.GivenUp old new before after call k = rest_asks_not s c old new before after call (cut_of old) k
answer_asks_not s c (link.Leaving w) old new before after call k = rest_asks_not s c old new before after call (cut_of old) k

connect_asks_not : (s : code_setup.Setup) (c : ℕ) (to : Addr) (old new : Conn) (before after : List Note) (call : List (List ℕ)) → ConnectsNext s c to old new before after (done.Asks call) → ⊥
connect_asks_not s c to old new before after call k = by_test (is_empty (queue_in Server old)) k
  where
    by_test : (b : Bool) → MatchBool b ((done.Asks call ≡ done.Goes) × Connects c to old new before after) (Rests s c old new before after (done.Asks call)) → ⊥
    by_test true k = let e = k.0 in cc
    by_test false k = rest_asks_not s c old new before after call (cut_of old) k

relay_asks_not : (s : code_setup.Setup) (c : ℕ) (p : Relay) (old new : Conn) (before after : List Note) (call : List (List ℕ)) → RelaysBy p s c old new before after (done.Asks call) → ⊥
relay_asks_not s c relay.Done old new before after call k = let e = k.0 in cc
relay_asks_not s c (relay.Pass side n) old new before after call k = let e = k.0 in cc
relay_asks_not s c (relay.Fire side n) old new before after call k = let e = k.0 in cc
relay_asks_not s c relay.Rest old new before after call k = rest_asks_not s c (round_begun old) new before after call (cut_of (round_begun old)) k

collect_asks_not : (s : code_setup.Setup) (c : ℕ) (o : Option ℕ) (old new : Conn) (before after : List Note) (call : List (List ℕ)) → CollectsBy o s c old new before after (done.Asks call) → ⊥
collect_asks_not s c None old new before after call k = rest_asks_not s c old new before after call (cut_of old) k
collect_asks_not s c (Some n) old new before after call k = let e = k.0 in cc

release_asks_not : (s : code_setup.Setup) (c : ℕ) (old new : Conn) (before after : List Note) (call : List (List ℕ)) → PassesReleased s c old new before after (done.Asks call) → ⊥
release_asks_not s c old new before after call k = by_test (server_room old) k
  where
    by_test : (b : Bool) → MatchBool b ((done.Asks call ≡ done.Goes) × Releases old new × (after ≡ before)) (Rests s c old new before after (done.Asks call)) → ⊥
    by_test true k = let e = k.0 in cc
    by_test false k = rest_asks_not s c old new before after call (cut_of old) k

gate_asks_not : (s : code_setup.Setup) (c : ℕ) (at : At) (old new : Conn) (before after : List Note) (call : List (List ℕ)) → PassesGate s c at old new before after (done.Asks call) → ⊥
gate_asks_not s c at old new before after call k = by_test (has_room old) k
  where
    by_test : (b : Bool) → MatchBool b ((done.Asks call ≡ done.Goes) × StartsBody s at 0 old new × (after ≡ before)) (Rests s c old new before after (done.Asks call)) → ⊥
    by_test true k = let e = k.0 in cc
    by_test false k = rest_asks_not s c old new before after call (cut_of old) k

said_asks : (s : code_setup.Setup) (at : At) (n : ℕ) (x : Said) (mid new : Conn) (call : List (List ℕ)) → GoesOn s at n x mid new (done.Asks call) → is_asking new.stage ≡ true
said_asks s at n said.More mid new call k = absurd (let e = k.0 in cc)
said_asks s at n (said.Asks other) mid new call k = ap (λ x. is_asking x.stage) k.1
said_asks s at n said.Over mid new call k = absurd (let e = k.0 in cc)
said_asks s at n (said.Fails kind line) mid new call k = absurd (let e = k.0 in cc)

pub asks_there : (s : code_setup.Setup) (c : ℕ) (old new : Conn) (before after : List Note) (call : List (List ℕ)) (ticks : ℕ) → Acted s c old new before after (done.Asks call) ticks → is_asking new.stage ≡ true
asks_there s c old new before after call ticks k = by_stage old.stage k
  where
    by_plan : (p : Plan) → ChoosesBy p s old new (done.Asks call) → is_asking new.stage ≡ true
    by_plan plan.Nothing k = absurd (let e = k.0 in cc)
    by_plan (plan.Node addr) k = absurd (let e = k.0 in cc)
    by_plan (plan.Member pool only) k = ap is_asking k.there

    by_handler : (at : At) (n : ℕ) (v : Option Handler) → BodyMovedBy s v c at n old new before after (done.Asks call) ticks → is_asking new.stage ≡ true
    by_handler at n None m = absurd (let e = m.0 in cc)
    by_handler at n (Some b) m = said_asks s at n (said_of b at m.turned) m.mid new call m.goes_on

    by_stage : (st : Stage) → ActedAt st s c old new before after (done.Asks call) ticks → is_asking new.stage ≡ true
    by_stage (stage.Gated at) k = absurd (gate_asks_not s c at old new before after call k)
    by_stage (stage.Running at n) k = by_handler at n (body_at s at n) k
    by_stage (stage.Asking at n) k = absurd (let e = k.0 in cc)
    by_stage stage.Selecting k = absurd (let e = k.0 in cc)
    by_stage (stage.Failing at n kind line) k = absurd (let e = k.0 in cc)
    by_stage stage.Choosing k = by_plan (plan_of old.host.net) k.0
    by_stage (stage.Chosen addr) k = absurd (let e = k.0 in cc)
    by_stage (stage.Connecting to) k = absurd (connect_asks_not s c to old new before after call k)
    by_stage (stage.Answering to) k = absurd (answer_asks_not s c old.ends.link old new before after call k)
    by_stage stage.Collecting k = absurd (collect_asks_not s c (meets old.host.net.client.asks old.ends.client.unread) old new before after call k)
    by_stage stage.AtHead (spoken, k) = absurd (or_asks_not s c old new before after call (head_or s c old new before after (done.Asks call) (head_part old.ends.client.unread old.ends.client.ended) k))
    by_stage stage.Continuing (spoken, k) = absurd (or_asks_not s c old new before after call (tells_or s c old new before after (done.Asks call) k))
    by_stage (stage.Gathering side wanted reader) (spoken, k) = absurd (or_asks_not s c (gathered_to side k.to old) new before after call (gathers_or s c side wanted reader old new before after (done.Asks call) k))
    by_stage stage.AtReuse k = absurd (let e = k.0 in cc)
    by_stage (stage.GivingUp w) k = absurd (let e = k.0 in cc)
    by_stage (stage.Retiring w) k = absurd (let e = k.0 in cc)
    by_stage (stage.Heading side) (spoken, k) = absurd (or_asks_not s c old new before after call (heading_or s c old new before after (done.Asks call) side k))
    by_stage (stage.Forwarding side reader standing) (spoken, k) = absurd (or_asks_not s c (passed_to side k.to old) new before after call (forwards_or s c old new before after (done.Asks call) side reader standing k))
    by_stage stage.AtResponse (spoken, k) = absurd (or_asks_not s c (with_ends k.to old) new before after call (answers_or s c old new before after (done.Asks call) k))
    by_stage (stage.Dropping reader) (spoken, k) = absurd (or_asks_not s c (dropped k.left k.size old) new before after call (drops_or s c reader old new before after (done.Asks call) k))
    by_stage stage.Releasing k = absurd (release_asks_not s c old new before after call k)
    by_stage (stage.Relaying first) k = absurd (relay_asks_not s c (relay_plan first old.host.net old.ends) old new before after call k)
    by_stage (stage.Finishing f) k = absurd (let e = k.0 in cc)
    by_stage stage.Draining k = absurd (let e = k.0 in cc)
    by_stage stage.OutOfMemory k = absurd (let e = k.0 in cc)
    by_stage (stage.Dropped n) k = absurd (let e = k.0 in cc)
