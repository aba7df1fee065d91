use Rattle.std.proofs.Common.{◌≡◌, true, false}
use Rattle.irule_net.specs.Checks.{command_of}
use Rattle.conn_trace.specs.Host.{first_word, names_one}
use Rattle.conn.proofs.Calling.{is_called, not_there}
use Rattle.conn.proofs.host.rule_command.Goals as goal

pub returns-then-not-is_there : goal.returns-then-not-is_there
returns-then-not-is_there c http =
    let words = c.args.words.now in
    let none : names_one (command_of (first_word words)) ≡ false = (let e = c.is_there.ensures in let n = c.first_word-name.ensures in let f = c.if-not-is_there.true in cc) in
    not_there c.args.groups.now c.args.event c.args.net.now http words c.args.made.now c.no_command.result c.raised.result none (rw c.first_word-name.ensures at c.no_command.ensures) c.raised.ensures

pub returns : goal.returns
returns c http =
    let words = c.args.words.now in
    let there : names_one (command_of (first_word words)) ≡ true = (let e = c.is_there.ensures in let n = c.first_word-name.ensures in let f = c.if-not-is_there.false in cc) in
    is_called c.args.groups.now c.args.event c.args.net.now http words c.args.made.now c.net_command.new.state c.net_command.new.made c.net_command.result there c.net_command.ensures
