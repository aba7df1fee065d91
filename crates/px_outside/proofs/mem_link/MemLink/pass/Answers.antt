use Rattle.std.proofs.Common.{◌≡◌, ◌+◌, ◌≤◌, List, length, drop, arith, rules, ap, sym, ◌∙◌}
use Rattle.px_outside.proofs.MemReads.{passed, within_rest, none_read}
use Rattle.px_outside.specs.MemLink.{LinkInMemory}
use Rattle.px_outside.specs.contracts.mem_link.MemLink.{the_view}
use Rattle.px_outside.specs.declared.mem_script.MemRead.{MemRead}
use Rattle.px_outside.proofs.mem_link.MemLink.pass.Goals as goal

pub overflow_add-self : goal.overflow_add-self
overflow_add-self c =
    let within : c.self.inside.read_at + c.args.n ≤ length c.self.inside.reads.items = within_rest _ _ _ c.self.inside.done _ c.self.invariant.within (ap (λ (l : LinkInMemory). l.reads) (sym c.self.view_is)) c.requires in
    search rules

pub invariant_of-self : goal.invariant_of-self
invariant_of-self c =
    record {
      within = within_rest _ _ _ c.self.inside.done _ c.self.invariant.within (ap (λ (l : LinkInMemory). l.reads) (sym c.self.view_is)) c.requires;
      front = none_read _;
    }

pub returns-then-n-gt0 : goal.returns-then-n-gt0
returns-then-n-gt0 c =
    ap (λ (r : List MemRead). record (the_view c.self.inside) { reads = r }) (passed c.self.inside.reads.items c.self.inside.read_at c.self.inside.done c.args.n (omega arith))
    ∙ ap (λ (l : LinkInMemory). record l { reads = drop c.args.n l.reads }) c.self.view_is
