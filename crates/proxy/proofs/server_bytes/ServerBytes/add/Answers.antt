use Rattle.std.proofs.Common.{◌≡◌, ℕ, List, ◌++◌, ◌-◌, suc, length, arith, ap, ◌∙◌}
use Rattle.proxy.specs.ServerBytes.{on_last}
use Rattle.proxy.proofs.TakenBytes.{last_there, on_ok}
use Rattle.proxy.proofs.server_bytes.ServerBytes.add.Goals as goal

pub returns : goal.returns
returns c =
    let all = c.self.inside.items.items in
    let at = c.len-len.result - 1 in
    let more : List ℕ → List ℕ = λ b. b ++ c.args.bytes.now in
    let last : length all ≡ suc at = omega (arith, c.len-len.ensures, c.if-len-eq0.false) in
    on_ok c.push.result _ _ (λ pushed. last_there more at all c.index_mut.result.now c.push.new.self last c.index_mut.ensures.value pushed ∙ ap (on_last more) c.self.view_is) c.push.ensures.ok
