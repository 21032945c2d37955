-- The places of a slot, when a run of them is written. Assumes nothing.
use Rattle.std.proofs.Common.{◌≡◌, ℕ, ◌+◌, ◌<◌, ◌≤◌, true, false, cond, ◌&&◌, ltb, leb, List, length, get_or, replicate, None, Option, sym, ap, ◌∙◌, ⊎_elim, arith, rules}
use borrow.Rule.Slice.PartMut.{put_mid}
use Rattle.std.proofs.lemmas.List.{length-replicate, places}
use Rattle.std.proofs.lemmas.Bool.{cases_lt, cond-true, cond-false}
use Rattle.std.proofs.lemmas.Bool.Decides.{nat_tests}

-- the n places from k on have o, and the others what they had
pub run_put : {A : Type 0} (k n m d : ℕ) (o : Option A) (xs ys : List (Option A)) → d ≡ n → k + n ≤ length xs → length ys ≡ n → ys ≡ replicate m o → (j : ℕ) → get_or (put_mid k d xs ys) j None ≡ cond (leb k j && ltb j (k + n)) o (get_or xs j None)
run_put k n m d o xs ys same room len e j = ⊎_elim before (λ from. ⊎_elim (within from) behind (cases_lt j (k + n))) (cases_lt j k)
  where
    before : j < k → get_or (put_mid k d xs ys) j None ≡ cond (leb k j && ltb j (k + n)) o (get_or xs j None)
    before l =
        let q : (leb k j && ltb j (k + n)) ≡ false = grind (arith, nat_tests) in
        let r : get_or (put_mid k d xs ys) j None ≡ get_or xs j None = search (rules, places) in
        r ∙ sym (cond-false _ _ _ q)

    within : k ≤ j → j < k + n → get_or (put_mid k d xs ys) j None ≡ cond (leb k j && ltb j (k + n)) o (get_or xs j None)
    within from l =
        let q : (leb k j && ltb j (k + n)) ≡ true = grind (arith, nat_tests) in
        let many : m ≡ n = omega (arith, length-replicate m o, ap length e, len) in
        let r : get_or (put_mid k d xs (replicate m o)) j None ≡ o = search (rules, places) in
        ap (λ zs. get_or (put_mid k d xs zs) j None) e ∙ r ∙ sym (cond-true _ _ _ q)

    behind : k + n ≤ j → get_or (put_mid k d xs ys) j None ≡ cond (leb k j && ltb j (k + n)) o (get_or xs j None)
    behind l =
        let q : (leb k j && ltb j (k + n)) ≡ false = grind (arith, nat_tests) in
        let r : get_or (put_mid k d xs ys) j None ≡ get_or xs j None = search (rules, places) in
        r ∙ sym (cond-false _ _ _ q)
