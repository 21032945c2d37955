-- Where the rows below some entries are as they were, those entries stand for what they stood for. Assumes nothing.
use Rattle.std.proofs.Common.{◌≡◌, ℕ, zero, suc, ◌+◌, List, [], ◌∷◌, ◌++◌, map, length, sum_by, sym, refl, ap, ◌∙◌, arith, length-append}
use mathlib.Core.List.Permᴰ
use mathlib.Core.List.{Permᴰ}
use Rattle.std.specs.List.{flat_map, AllByRecursion}
use Rattle.std.proofs.ByRecursion.{All-weaker}
use Rattle.std.proofs.lemmas.List.Sums.{sum_by-cons}
use Rattle.extent.specs.declared.entry.Entry.{Entry}
use Rattle.quadratic.proofs.Perms.{joined_append, perm_same, perm_front, perm_joined}
use Rattle.guttman.specs.Trees.{Item}
use Rattle.guttman.specs.Shape.{nodes_of, nodes}
use Rattle.guttman.proofs.Lists.{joined_same}
use Rattle.node_rows.specs.Rows.{below, under, used}
use Rattle.node_rows.specs.Nodes.{seen}
use Rattle.node_rows.proofs.Separate.{map_same, all_unjoined}

module _ {E : Type 0} (f f' : ℕ → List (Entry E)) where
  pub same_seen : (h : ℕ) (es : List (Entry E)) → AllByRecursion (λ q. f' q ≡ f q) (under f h es) → (map (seen f' h) es ≡ map (seen f h) es) × (under f' h es ≡ under f h es)
  same_seen zero es s = (refl, refl)
  same_seen (suc h) es s =
      let S : Entry E → Type 0 = λ x. (seen f' (suc h) x ≡ seen f (suc h) x) × (used f' h x.code ≡ used f h x.code) in
      let each : AllByRecursion S es =
      All-weaker (λ x. AllByRecursion (λ q. f' q ≡ f q) (used f h x.code)) S
      (λ x a. let ih = same_seen h (f x.code) a.1 in
      (ap (λ (z : Item E (suc h)). (x.extent, z)) (ap (map (seen f' h)) a.0 ∙ ih.0), ap (λ z. x.code ∷ z) (ap (under f' h) a.0 ∙ ih.1)))
      es (all_unjoined (λ q. f' q ≡ f q) (λ x. used f h x.code) es s) in (
        map_same (seen f' (suc h)) (seen f (suc h)) es (All-weaker S (λ x. seen f' (suc h) x ≡ seen f (suc h) x) (λ x a. a.0) es each),
        joined_same S (λ x. used f' h x.code) (λ x. used f h x.code) (λ x a. a.1) es each,
      )

module _ {E : Type 0} (f : ℕ → List (Entry E)) where
  pub under_append : (h : ℕ) (xs ys : List (Entry E)) → under f h (xs ++ ys) ≡ under f h xs ++ under f h ys
  under_append zero xs ys = refl
  under_append (suc h) xs ys = joined_append (λ x. used f h x.code) xs ys

  under_none : (h : ℕ) → under f h [] ≡ []
  under_none zero = refl
  under_none (suc h) = refl

  pub perm_under : (h : ℕ) {xs ys : List (Entry E)} → Permᴰ xs ys → Permᴰ (under f h xs) (under f h ys)
  perm_under zero p = Permᴰ.nil
  perm_under (suc h) p = perm_joined (λ x. used f h x.code) p

  pub perm_used : (h : ℕ) (rs : List ℕ) → Permᴰ (rs ++ under f h (flat_map f rs)) (flat_map (used f h) rs)
  perm_used h [] = perm_same (under_none h)
  perm_used h (r ∷ rs) =
      Permᴰ.cons refl
      (Permᴰ.trans (perm_same (ap (λ z. rs ++ z) (under_append h (f r) (flat_map f rs))))
      (Permᴰ.trans (perm_front rs (under f h (f r)) (under f h (flat_map f rs))) (Permᴰ.append_left (under f h (f r)) (perm_used h rs))))

  -- a tree takes a row for each of its nodes
  length_under : (h : ℕ) (es : List (Entry E)) → length (under f h es) ≡ sum_by (nodes_of h) (map (seen f h) es)
  length_under zero [] = refl
  length_under zero (x ∷ es) = let s = sum_by-cons (nodes_of 0) (seen f 0 x) (map (seen f 0) es) in let ih = length_under zero es in omega arith
  length_under (suc h) [] = refl
  length_under (suc h) (x ∷ es) =
      let ih = length_under (suc h) es in
      let here = length_under h (f x.code) in
      let sums : suc (length (under f h (f x.code))) + length (under f (suc h) es) ≡ (1 + sum_by (nodes_of h) (map (seen f h) (f x.code))) + sum_by (nodes_of (suc h)) (map (seen f (suc h)) es) =
      omega arith in
      length-append (used f h x.code) (under f (suc h) es) ∙ sums ∙ sym (sum_by-cons (nodes_of (suc h)) (seen f (suc h) x) (map (seen f (suc h)) es))

  pub length_used : (h r : ℕ) → length (used f h r) ≡ nodes h (below f h r)
  length_used h r = let l = length_under h (f r) in omega arith
