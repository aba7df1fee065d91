use Rattle.std.proofs.Common.{◌<◌, Ok, [], arith, length, refl, subst, sym}
use Rattle.session_table.specs.Answers.{if_live}
use Rattle.session_table.specs.Serves.{Serves}
use Rattle.session_table.specs.Stored.{Dues, due, named, rows_of}
use Rattle.session_table.specs.Tables.{TableState, added}
use Rattle.session_table.proofs.Turning.{add_served, state}
use Rattle.session_table.proofs.UnderKeys.{dues_insert, none_found}
use Rattle.session_table.proofs.table.SessionTable.add.Goals as goal

pub insert-requires : goal.insert-requires
insert-requires c = none_found c.args.key.0.items c.args.key.1.items c.self.inside.rows (rw (← c.self.view_is) at c.requires.absent)

pub invariant_of-self-2 : goal.invariant_of-self-2
invariant_of-self-2 c =
    let row = c.in-Some.row in
    subst (λ es. Dues es) (sym c.in_ok-insert.ensures.ok) (dues_insert c.args.key (named [] [] row) (due row) c.self.inside.rows refl c.self.invariant)

pub returns : goal.returns
returns c =
    let es = c.self.inside.rows in
    let none = none_found c.args.key.0.items c.args.key.1.items es (rw (← c.self.view_is) at c.requires.absent) in
    let room : length es < c.self.inside.limit = omega (arith, c.len.ensures, c.if-len-self.false) in
    subst (λ (t : TableState). Serves (Ok c.args.came.reply) t (state c.self.inside.limit (rows_of c.insert.new.rows)) (added t.limit c.args.came.reply (if_live c.args.moment c.args.came.row) t.rows)) c.self.view_is
    (add_served c.self.inside.limit c.args.key c.args.came.reply c.in-Some.row c.args.came.row c.args.moment es c.insert.new.rows (sym c.in-Some.ensures) c.requires.names none room c.in_ok-insert.ensures.ok)
