use Rattle.spread.proofs.Turned.{halves}
use Rattle.spread.proofs.Circle.turned.Goals as goal

pub returns : goal.returns
returns c =
    let turn = c.rotate_left.ensures in
    let one = c.split_at_mut-others.ensures in
    let two = c.split_at_mut.ensures in
    halves _ c.args.j c.args.members.now _ _ _ _ _ c.requires.listed c.requires.there c.requires.pivot turn.len turn.by_index.0 turn.by_index.1
    one.value one.front_len one.back_len two.value two.front_len two.back_len
