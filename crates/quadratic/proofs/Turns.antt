-- One turn of the sharing out, from the numbers that it goes by. Assumes nothing.
use Rattle.std.proofs.Common.{◌≡◌, ℕ, ◌+◌, eqb, List, set, Option, sym, ap, ◌∙◌, add-one, arith}
use Rattle.std.proofs.lemmas.Bool.{eq-eqb, ne_eqb}
use Rattle.quadratic.specs.Split.{Groups, letter_for, sizes, join_sizes_lem, growth, growths, seeds_before, seeds, started, next_before, next, goes_to_a, given, shared_one, shared}

module _ {E : Type 0} (size : E → ℕ) (join : E → E → E) where
  pub goes_next : (x : ℕ → E) (g : Groups E) (o : Option ℕ) (ga gb : List ℕ) → ga ≡ growths size join x g.a → gb ≡ growths size join x g.b → o ≡ next_before ga gb g.letters 9 → o ≡ next size join x g
  unfolding next
  goes_next x g o ga gb a b h = cc

  pub shared_none : (x : ℕ → E) (ss js : List ℕ) (p : ℕ × ℕ) (g : Groups E) → ss ≡ sizes size join x → js ≡ join_sizes_lem size join x → p ≡ seeds_before ss js 81 → g ≡ started size join x p → g ≡ shared size join x 0
  unfolding shared seeds
  shared_none x ss js p g a b c d = cc

  pub shared_more : (x : ℕ → E) (n : ℕ) (g h : Groups E) → g ≡ shared size join x n → h ≡ shared_one size join x g (next size join x g) → h ≡ shared size join x (n + 1)
  unfolding shared
  shared_more x n g h e d = d ∙ ap (λ z. shared_one size join x z (next size join x z)) e ∙ ap (shared size join x) (sym (add-one n))

  pub growth_is : (a e y : E) (n : ℕ) → y ≡ e → n + size a ≡ size (join a y) → n ≡ growth size join a e
  unfolding growth
  growth_is a e y n p h = let q = ap (λ z. size (join a z)) p in omega arith

  module _ (x : ℕ → E) (g : Groups E) (i : ℕ) (y : E) (is : y ≡ x i) (l ga gb sa sb : ℕ) (grown-a : ga + size g.a ≡ size (join g.a y)) (grown-b : gb + size g.b ≡ size (join g.b y))
      (size-a : sa ≡ size g.a) (size-b : sb ≡ size g.b) (letter : l ≡ letter_for ga gb sa sb g.na g.nb) where
    goes_is : eqb l 65 ≡ goes_to_a size join x g i
    unfolding goes_to_a
    goes_is =
        let a = growth_is g.a (x i) y ga is grown-a in
        let b = growth_is g.b (x i) y gb is grown-b in
        cc

    pub given_a : (ls : List ℕ) (k : E) (n : ℕ) → ls ≡ set g.letters i l → k ≡ join g.a y → n ≡ g.na + 1 → l ≡ 65
        → ◌≡◌ {A = Groups E} (record { letters = ls; a = k; b = g.b; na = n; nb = g.nb }) (given size join x g i (goes_to_a size join x g i))
    unfolding given
    given_a ls k n c h m e =
        let mk : List ℕ → E → ℕ → Groups E = λ c z m. record { letters = c; a = z; b = g.b; na = m; nb = g.nb } in
        let now : mk ls k n ≡ mk (set g.letters i 65) (join g.a (x i)) (g.na + 1) = cc in
        now ∙ ap (given size join x g i) (sym (eq-eqb l 65 e) ∙ goes_is)

    pub given_b : (ls : List ℕ) (k : E) (n : ℕ) → ls ≡ set g.letters i l → k ≡ join g.b y → n ≡ g.nb + 1 → l ≡ 66
        → ◌≡◌ {A = Groups E} (record { letters = ls; a = g.a; b = k; na = g.na; nb = n }) (given size join x g i (goes_to_a size join x g i))
    unfolding given
    given_b ls k n c h m e =
        let mk : List ℕ → E → ℕ → Groups E = λ c z m. record { letters = c; a = g.a; b = z; na = g.na; nb = m } in
        let now : mk ls k n ≡ mk (set g.letters i 66) (join g.b (x i)) (g.nb + 1) = cc in
        now ∙ ap (given size join x g i) (sym (ne_eqb l 65 (λ z. omega arith)) ∙ goes_is)
