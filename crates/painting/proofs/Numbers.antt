-- What stands at the numbers of a table: as it is written, and as a loop over its first 256 entries reads it.
-- Assumes nothing.
use Rattle.std.proofs.Common.{◌≡◌, ℕ, zero, suc, ◌+◌, ◌<◌, ◌≤◌, min, cond, eqb, ltb, List, length, get_or, set, Some, None, Option, Iter, Bor, unwrap_or, refl, sym, ap, ◌∙◌, ⊎_elim, get_or-set_other, get_or-set_same, arith}
use Rattle.std.specs.List.{range_with_len, zip}
use Rattle.std.specs.Iterator.{Yields}
use Rattle.std.specs.Iterator.Adapters.{zip_first, zip_second}
use Rattle.std.specs.Slice.Iter.{iter_rest}
use Rattle.std.specs.declared.ops.Range.{Range}
use Rattle.std.specs.declared.iter.Zip.{Zip}
use Rattle.std.proofs.iter.Yields.{fronts, nat_range_steps}
use Rattle.std.proofs.lemmas.Iterator.{YieldsList, zips, YieldsList-from_slice, YieldsList-from_range, YieldsList-from_zip}
use Rattle.std.proofs.lemmas.Iterator.Consumers.{YieldsList-turn, YieldsList-end}
use Rattle.std.proofs.lemmas.List.FromFn.{length-range_with_len, get_or-range_with_len}
use Rattle.std.proofs.lemmas.Slice.Zip.{length-zip, get_or-zip}
use Rattle.std.proofs.lemmas.Bool.{cases_Bool, cases_eq, cond-true, cond-false, eq-eqb, ne_eqb, lt-ltb}
use Rattle.std.proofs.lemmas.List.{get_or_default, get_or_past}
use Rattle.std.specs.Option.{option_map}
use Rattle.raster.proofs.Tables.{mapped_cond}
use Rattle.painting.specs.Drawing.{topmost}
use Rattle.painting.specs.Scenes.{at_number}
use Rattle.painting.proofs.Topmost.{topmost_more}

-- an entry stands at its number
pub entry_there : {A : Type 0} (table : List (Option A)) (i : ℕ) (o : Option A) → i < 256 → i < length table → o ≡ get_or table i o → at_number table i ≡ o
entry_there table i o h l e = cond-true (ltb i 256) _ None (lt-ltb i 256 h) ∙ get_or_default table i None o l ∙ sym e

-- and nothing past the last
pub past_entries : {A : Type 0} (table : List (Option A)) (i : ℕ) → length table ≤ i → at_number table i ≡ None
past_entries table i h = ⊎_elim (λ e. cond-true (ltb i 256) _ None e ∙ get_or_past table i None h) (λ e. cond-false (ltb i 256) _ None e) (cases_Bool (ltb i 256))

-- what stands at each number after a write
pub entry_written : {A B : Type 0} (f : A → B) (table : List (Option A)) (n k : ℕ) (o : Option A) → n < 256 → n < length table → option_map f (at_number (set table n o) k) ≡ cond (eqb k n) (option_map f o) (option_map f (at_number table k))
entry_written f table n k o h l = ap (option_map f) written ∙ mapped_cond f (eqb k n) o (at_number table k)
  where
    written : at_number (set table n o) k ≡ cond (eqb k n) o (at_number table k)
    written = ⊎_elim
        (λ e. ap (at_number (set table n o)) e ∙ cond-true (ltb n 256) _ None (lt-ltb n 256 h) ∙ get_or-set_same table n o None l ∙ sym (cond-true (eqb k n) o (at_number table k) (eq-eqb k n e)))
        (λ e. ap (λ v. cond (ltb k 256) v None) (get_or-set_other table n k o None e) ∙ sym (cond-false (eqb k n) o (at_number table k) (ne_eqb k n e)))
        (cases_eq k n)

-- an entry beside its number, as the two are read together
pub record Beside {A : Type 0} (table : List A) (i n : ℕ) (entry : A) : Type 0 where
  pub number : n ≡ i
  pub small : i < 256
  pub there : i < length table
  pub read : entry ≡ get_or table i entry

pub beside : {A : Type 0} (table : List A) (i n : ℕ) (entry : A) → i < length (zip (range_with_len 0 256) table) → (n, entry) ≡ get_or (zip (range_with_len 0 256) table) i (n, entry) → Beside table i n entry
beside table i n entry h e =
    let long : length (zip (range_with_len 0 256) table) ≡ min 256 (length table) = length-zip (range_with_len 0 256) table ∙ ap (λ m. min m (length table)) (length-range_with_len 0 256) in
    let small : i < 256 = omega (arith, long, h) in
    let there : i < length table = omega (arith, long, h) in
    let p = e ∙ get_or-zip (range_with_len 0 256) table i (n, entry) (omega (arith, length-range_with_len 0 256)) there in
    record { number = omega (arith, ap (λ q. q.0) p, get_or-range_with_len 0 256 i n small); small = small; there = there; read = ap (λ q. q.1) p }

-- a loop that reads the entries beside their numbers, at an entry and at its end
module _ {A : Type 0} (table : List A) (s : Zip (Range ℕ) (Iter A)) (first : zip_first s ≡ record { start = 0; end = 256 }) (second : iter_rest (zip_second s) ≡ table) (seen : List (ℕ × Bor A)) (t : Zip (Range ℕ) (Iter A)) (yields : Yields (zips nat_range_steps fronts) s seen t) where
  entries : YieldsList (zips nat_range_steps fronts) (λ (p : ℕ × Bor A). (p.0, p.1.now)) s (zip (range_with_len 0 256) table)
  entries = YieldsList-from_zip (YieldsList-from_range 0 256 256 first refl) (YieldsList-from_slice table second)

  pub at_entry : (r : Option (ℕ × Bor A)) (u : Zip (Range ℕ) (Iter A)) (p : ℕ × Bor A) → r ≡ Some p → zips nat_range_steps fronts t r u → Beside table (length seen) p.0 p.1.now
  at_entry r u p e step = let turn = YieldsList-turn entries seen t yields r u p e step in beside table (length seen) p.0 p.1.now turn.0 turn.1

  pub at_end : (r : Option (ℕ × Bor A)) (u : Zip (Range ℕ) (Iter A)) → r ≡ None → zips nat_range_steps fronts t r u → length seen ≡ min 256 (length table)
  at_end r u e step = (YieldsList-end entries seen t yields r u e step).1 ∙ length-zip (range_with_len 0 256) table ∙ ap (λ m. min m (length table)) (length-range_with_len 0 256)

-- what f gives of the entries, read one after the other
module _ {A : Type 0} (f : ℕ → Option A → Option ℕ) (table : List (Option A)) (d : ℕ) where
  pub one_more : (i : ℕ) (o : Option A) → i < 256 → i < length table → o ≡ get_or table i o → unwrap_or (f i o) (topmost (λ n. f n (at_number table n)) d i) ≡ topmost (λ n. f n (at_number table n)) d (i + 1)
  one_more i o h l e = ap (λ w. unwrap_or (f i w) (topmost (λ n. f n (at_number table n)) d i)) (sym (entry_there table i o h l e)) ∙ sym (topmost_more _ d i)

  pub all_read : ((n : ℕ) → f n None ≡ None) → (i : ℕ) → min 256 (length table) ≤ i → i ≤ 256 → topmost (λ n. f n (at_number table n)) d i ≡ topmost (λ n. f n (at_number table n)) d 256
  unfolding topmost
  all_read none i l h = sym (below 256 h (omega arith))
    where
      below : (n : ℕ) → i ≤ n → n ≤ 256 → topmost (λ n. f n (at_number table n)) d n ≡ topmost (λ n. f n (at_number table n)) d i
      below zero h k = let e : 0 ≡ i = omega arith in ap (topmost (λ n. f n (at_number table n)) d) e
      below (suc n) h k = ⊎_elim
          (λ e. ap (topmost (λ n. f n (at_number table n)) d) (sym e))
          (λ e. ap (λ o. unwrap_or o (topmost (λ n. f n (at_number table n)) d n)) (ap (f n) (past_entries table n (omega (arith, e))) ∙ none n) ∙ below n (omega (arith, e)) (omega arith))
          (cases_eq i (suc n))
