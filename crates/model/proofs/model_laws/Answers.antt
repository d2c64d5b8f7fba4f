-- `model::model_laws` meets its contract. Assumes nothing.
use Prim.Native.Nat.{ℕ, ◌<◌}
use mathlib.Core.Path.{◌≡◌, refl}
use mathlib.Core.List.{List}
use mathlib.Core.Logic.{⊎_elim}
use native.Mathlib.Omega.{arith}
use lib.ListN.{length, get_or, set}
use lib.Seq.{get_or-set_same, get_or-set_other}
use lib.Dec.{eqb}
use borrow.Author.Tests.{eq-eqb, ne_eqb}
use Rattle.model.specs.Parts.{choose}
use Rattle.model.specs.Session.{no_keys}
use Rattle.model.proofs.Blocks.{claimed_ivs, claimed_block_lem}
use Rattle.model.proofs.Cells.{first_cell_lowest, lower_opens_ends, lower_opens_true, lower_opens_false}
use Rattle.model.proofs.Keys.{all_keys_length, all_keys_above, all_counts_length, all_counts_below, all_counts_above}
use Rattle.model.proofs.MapBlocks.{map_block_row}
use Rattle.model.proofs.Permutations.{names_place, names_once}
use Rattle.model.proofs.Refused.{write_refused, release_refused, close_refused}
use Rattle.model.proofs.Searches.{free_found, bad_found, none_found}
use Rattle.model.proofs.Seals.{block_iv, block_entry}
use Rattle.model.proofs.Shuffles.{ordering_names, ordering_shuffles, run_drawn, drawing_run}
use Rattle.model.proofs.Tests.{equal}
use Rattle.model.proofs.model_laws.Goals as goal

-- One element set.
set_at : (s : List ℕ) (m x n : ℕ) → n < length s → get_or (set s m x) n 0 ≡ choose (eqb n m) x (get_or s n 0)
set_at s m x n l =
    ⊎_elim (λ e. rw (eq-eqb n m e, ← e) (get_or-set_same s n x 0 l)) (λ d. rw (ne_eqb n m d) (get_or-set_other s m n x 0 d)) (equal n m)

pub returns : goal.returns
returns c =
    record {
      lowest = λ key cell k vmk e. let l = first_cell_lowest key cell 15 k vmk e in (l.1, l.2);
      free_found = free_found;
      bad_found = bad_found;
      none_found = none_found;
      lower_opens_lem = λ keys cell n e. lower_opens_true keys cell (lower_opens_ends keys cell n) e;
      lower_shut = λ keys cell n e. lower_opens_false keys cell (lower_opens_ends keys cell n) e;
      keys_above = λ keys k e l. (all_keys_length keys k e l, all_keys_above keys k e l);
      no_keys_lem = unfold no_keys in refl;
      counts_above = λ counts k e l. (all_counts_length counts k e l, all_counts_below counts k e l, all_counts_above counts k e l);
      claimed_ivs = claimed_ivs;
      claimed_block_lem = λ b s key ivs j text n ivsl fit textl h. claimed_block_lem b s key ivs j text ivsl fit textl n h;
      claimed_owner = λ h i σ j ψ place text tape l. get_or-set_same h.owners ψ _ 0 l;
      place = λ p perm ψ names l.
          let q = names_place p perm ψ names l in (
            omega (arith, q.inside, names.places),
            q.is,
            λ n h e. names_once p perm names n _ (omega (arith, h, names.places)) q.inside (rw q.is e),
          );
      released_entry = λ h i σ ψ place tape n l. set_at h.maps _ _ n l;
      released_owner = λ h i σ ψ place tape φ l. set_at h.owners ψ 0 φ l;
      write_refused = λ device h i a text perm tape n probes e.
          let q = (write_refused device h i a text perm tape n probes).leaves e in (q.0, q.1);
      release_refused = λ device h i σ perm tape n. (release_refused device h i σ perm tape n).leaves;
      close_refused = λ device h n. (close_refused device h n).leaves;
      write_kept = λ device h i a text perm tape n probes e. ((write_refused device h i a text perm tape n probes).leaves e).2;
      ordering_names = ordering_names;
      ordering_shuffles = ordering_shuffles;
      run_drawn = run_drawn;
      drawing_run = λ i bytes ds rest q. drawing_run q rest;
      map_block_lem = λ maps g ok vek iv i t e l ivl le fits.
          rw (map_block_row maps g i t l vek iv) (block_iv g ok vek iv _ ivl, block_entry g ok vek iv _ ivl e le fits);
    }
