use Rattle.std.proofs.Common.{◌≡◌, ◌<◌, true, false, cond, not, eqb, length, is_some, Some, None, sym, refl, ap, ◌∙◌, rules}
use Rattle.std.proofs.lemmas.Bool.{and_from, le-leb, lt-ltb}
use Rattle.painting.specs.Scenes.{item, turn}
use Rattle.list_book.specs.Book.{span_refusal}
use Rattle.list_book.specs.Views.{book}
use Rattle.list_book.proofs.Steps.{unless_true, same_book, accepted}
use Rattle.painting.proofs.Numbers.{entry_written}
use Rattle.list_book.proofs.Tables.{some_there}
use Rattle.list_book.proofs.list.ShapeList.span.Goals as goal

pub returns : goal.returns
returns c =
    let b = book c.args.self.now in
    let s = c.args.number in
    let xs = c.args.self.now.spans in
    let ink = c.in_ok-ink.ensures in
    let there : s < length xs = search rules in
    let named : c.args.shape < length c.args.self.now.shapes = search rules in
    let small : s < 256 = search rules in
    let known : c.args.shape < 256 = search rules in
    let free : is_some c.index-self-number.result ≡ false = search rules in
    let used : is_some c.index-self-shape.result ≡ true = search rules in
    let none : None ≡ span_refusal b s c.args.shape c.args.from c.args.to c.args.ink =
    sym (unless_true _ 6 _ (and_from _ _ (lt-ltb _ _ small) (lt-ltb _ _ known))
    ∙ unless_true _ 7 _ (ap not (some_there turn xs s c.index-self-number.result small there c.index-self-number.is ∙ free))
    ∙ unless_true _ 8 _ (some_there item c.args.self.now.shapes c.args.shape c.index-self-shape.result known named c.index-self-shape.is ∙ used)
    ∙ unless_true _ 12 _ (le-leb _ _ c.if-from-to.false)
    ∙ unless_true _ 9 _ (le-leb _ _ ink.0)) in
    record {
      answer = none;
      after = accepted _ b _ _ none (same_book _ _ refl refl (λ k. refl)
          (λ k. entry_written turn xs s k _ small there ∙ ap (λ i. cond (eqb k s) (Some (record { shape = c.args.shape; from = c.args.from; to = c.args.to; ink = i })) (b.spans k)) ink.1)
          refl);
    }
