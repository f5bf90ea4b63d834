-- Words that are true of a piece.
use Rattle.std.proofs.Common.{◌≡◌, Bool, false, cond, List, [], ◌∷◌, ◌++◌, filter, All, refl, ◌∙◌, ap}
use Rattle.std.proofs.lemmas.List.Elements.{All-head, All-tail, Contains-append_left, Contains-push}
use Rattle.glass_base.specs.Problem.{Problem}
use Rattle.cut_model.specs.declared.family.Row.{Row}
use Rattle.plan_picture.specs.declared.mark.Words.{Words}
use Rattle.plan_picture.specs.declared.mark.Words.TheVariants as words
use Rattle.plan_picture.specs.Texts.{AreOf, IsTrueOf, is_count, is_heading, is_of_verdict}

-- they are no heading
pub true_no_heading : (b : Problem) (row : Row) (said : Words) → IsTrueOf b row said → is_heading said ≡ false
true_no_heading b row (words.Plate _ _ _) is_true = absurd is_true
true_no_heading b row _ is_true = refl

-- and say nothing of the verdict
pub true_no_verdict : (b : Problem) (row : Row) (said : Words) → IsTrueOf b row said → is_of_verdict said ≡ false
true_no_verdict b row (words.Loss _ _) is_true = absurd is_true
true_no_verdict b row (words.Unlawful _) is_true = absurd is_true
true_no_verdict b row (words.Reason _) is_true = absurd is_true
true_no_verdict b row _ is_true = refl

-- and count nothing
pub true_no_count : (b : Problem) (row : Row) (said : Words) → IsTrueOf b row said → is_count said ≡ false
true_no_count b row (words.Counts _ _) is_true = absurd is_true
true_no_count b row _ is_true = refl

-- so none of them is kept
pub none_kept : (b : Problem) (row : Row) (test : Words → Bool) → ((said : Words) → IsTrueOf b row said → test said ≡ false) → (more : List Words) → All (IsTrueOf b row) more → filter test more ≡ []
none_kept b row test fails [] are_true = refl
none_kept b row test fails (said ∷ more) are_true =
    ap (λ (keeps : Bool). cond keeps (said ∷ filter test more) (filter test more)) (fails said (All-head (IsTrueOf b row) said more are_true))
    ∙ none_kept b row test fails more (All-tail (IsTrueOf b row) said more are_true)

-- what is true of one of some rows is so of one of more rows
pub still_of : (b : Problem) (rows : List Row) (row : Row) (said : Words) → AreOf b rows said → AreOf b (rows ++ row ∷ []) said
still_of b rows row (words.Plate _ _ _) h = tt
still_of b rows row (words.Loss _ _) h = tt
still_of b rows row (words.Unlawful _) h = tt
still_of b rows row (words.Reason _) h = tt
still_of b rows row (words.Counts _ _) h = tt
still_of b rows row (words.Key _) h = tt
still_of b rows row _ h = (h.0, Contains-append_left rows (row ∷ []) h.0 h.1, h.2)

-- what is true of the last row
pub of_last : (b : Problem) (rows : List Row) (row : Row) (said : Words) → IsTrueOf b row said → AreOf b (rows ++ row ∷ []) said
of_last b rows row (words.Plate _ _ _) is_true = absurd is_true
of_last b rows row (words.Loss _ _) is_true = absurd is_true
of_last b rows row (words.Unlawful _) is_true = absurd is_true
of_last b rows row (words.Reason _) is_true = absurd is_true
of_last b rows row (words.Counts _ _) is_true = absurd is_true
of_last b rows row (words.Key _) is_true = absurd is_true
of_last b rows row _ is_true = (row, Contains-push rows row, is_true)
