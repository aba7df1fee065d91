use Rattle.std.proofs.Common.{◌≡◌, length, ltb, ap, ◌∙◌, arith}
use Rattle.tmsh_read.proofs.Arrays.{more_than_one}
use Rattle.tmsh_read.specs.Items.{key_of}
use Rattle.tmsh_read.specs.Sketch.{has_in, sketch}
use Rattle.tmsh_read.proofs.draft.Draft.has.Goals as goal

pub returns-in-Row : goal.returns-in-Row
returns-in-Row c =
    let d = c.args.self.now in
    let len : c.len.result ≡ length d.row.items = omega (arith, c.len.ensures, d.row.ok.0) in
    ap (ltb 1) len ∙ more_than_one d.row.items ∙ ap (λ b. has_in b (key_of c.args.item) (sketch d)) c.in-Row.ensures
