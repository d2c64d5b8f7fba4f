-- `releasing::release` meets its contract: what its refusals, its draw and its carrying out come to is the model's release
-- (`Carries.antt`). Assumes nothing.
use Rattle.releasing.proofs.Carries.{carry_out_asks, release_ensures}
use Rattle.releasing.proofs.release.Goals as goal

pub carry_out-requires : goal.carry_out-requires
carry_out-requires c =
    let a = c.args in
    carry_out_asks a.device.now a.maps.now a.owners.now a.perm.now a.tape.now a.position.now.at a.session a.volume a.logical _
    c.release_refusal-answer.ensures _ c.need.ensures _ c.draw-drawn.new.position.at c.draw-drawn.ensures

pub returns : goal.returns
returns c =
    let a = c.args in
    release_ensures a.device.now a.maps.now a.owners.now a.perm.now a.tape.now a.position.now.at a.session a.volume a.logical _
    c.release_refusal-answer.ensures _ c.need.ensures _ c.draw-drawn.new.position.at c.draw-drawn.ensures c.carry_out.result _ _ _
    c.carry_out.ensures
