use Rattle.std.proofs.Common.{◌≡◌, ◌<◌, cond, eqb, length, Some, None, sym, refl, ap, ◌∙◌, arith, rules}
use Rattle.std.proofs.lemmas.Bool.{and_from, le-leb, lt-ltb}
use Rattle.painting.specs.Scenes.{item}
use Rattle.list_book.specs.Book.{place_refusal}
use Rattle.list_book.specs.Views.{book}
use Rattle.list_book.proofs.Steps.{unless_true, same_book, accepted}
use Rattle.painting.proofs.Numbers.{entry_written}
use Rattle.list_book.proofs.list.ShapeList.place.Goals as goal

pub returns : goal.returns
returns c =
    let b = book c.args.self.now in
    let n = c.args.number in
    let xs = c.args.self.now.shapes in
    let ink = c.in_ok-ink.ensures in
    let there : n < length xs = search rules in
    let none : None ≡ place_refusal b n c.args.shape c.args.ink =
    sym (unless_true _ 6 _ (lt-ltb n 256 (omega arith)) ∙ unless_true _ 9 _ (and_from _ _ c.in_ok-check_figures.ensures (le-leb _ _ ink.0)) ∙ unless_true _ 10 _ c.in_ok-check_bounds.ensures) in
    record {
      answer = none;
      after = accepted _ b _ _ none (same_book _ _ refl refl
          (λ k. entry_written item xs n k _ (omega arith) there ∙ ap (λ i. cond (eqb k n) (Some (record { shape = c.args.shape; ink = i })) (b.shapes k)) ink.1)
          (λ s. refl) refl);
    }
