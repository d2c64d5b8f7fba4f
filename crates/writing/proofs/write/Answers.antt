-- `writing::write` meets its contract: what was decided, drawn and carried out is the model's write (`Carried.antt`). Assumes nothing.
use Rattle.writing.proofs.Carried.{need_asks, carry_out_asks, write_ensures}
use Rattle.writing.proofs.write.Goals as goal

pub need-requires : goal.need-requires
need-requires c =
    let a = c.args in
    need_asks a.device.now a.maps.now a.owners.now a.perm.now a.tape.now a.position.now.at a.session a.volume a.address a.text.now _
    c.decide-decision.ensures

pub carry_out-requires : goal.carry_out-requires
carry_out-requires c =
    let a = c.args in
    carry_out_asks a.device.now a.maps.now a.owners.now a.perm.now a.tape.now a.position.now.at a.session a.volume a.address a.text.now _
    c.decide-decision.ensures _ c.need.ensures _ c.draw-drawn.new.position.at c.draw-drawn.ensures

pub returns : goal.returns
returns c =
    let a = c.args in
    write_ensures a.device.now a.maps.now a.owners.now a.perm.now a.tape.now a.position.now.at a.session a.volume a.address a.text.now _
    c.decide-decision.ensures _ c.need.ensures _ c.draw-drawn.new.position.at c.draw-drawn.ensures c.carry_out.result _ _ _
    c.carry_out.ensures
