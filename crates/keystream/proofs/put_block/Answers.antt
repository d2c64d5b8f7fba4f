-- `keystream::put_block` meets its contract: bytes copied are bytes put one by one. Assumes nothing.
use Rattle.std.proofs.Common.{◌≡◌, ◌∙◌, sym, ap, rules, arith, ℕ, zero, suc, ◌+◌, ◌≤◌, List, length, get_or}
use Rattle.std.proofs.Math.ListN.{set}
use Rattle.std.proofs.Math.Seq.{paste, paste-zero, paste-suc}
use Rattle.std.proofs.lemmas.Slice.{put_mid-paste}
use Rattle.keystream.specs.Words.{put_bytes}
use Rattle.keystream.proofs.put_block.Goals as goal

pasted : (buf b : List ℕ) (at k : ℕ) → at + k ≤ length buf → k ≤ length b → paste buf at b k ≡ put_bytes buf at b k
unfolding put_bytes
pasted buf b at zero h l = sym (paste-zero buf at b)
pasted buf b at (suc k) h l =
    sym (paste-suc buf at b k 0 (omega arith) (omega arith))
    ∙ ap (λ (t : List ℕ). set t (at + k) (get_or b k 0)) (pasted buf b at k (omega arith) (omega arith))

pub returns : goal.returns
returns c =
    let long : length c.args.b ≡ 16 = search rules in
    put_mid-paste _ _ _ _ c.args.b 16 c.copy_from_slice.ensures.after (omega arith) (omega arith)
    ∙ pasted c.args.buf.now c.args.b c.args.at 16 (omega arith) (omega arith)
