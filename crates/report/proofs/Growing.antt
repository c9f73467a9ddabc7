-- A part of the sheet, row by row. Assumes nothing.
use Rattle.std.proofs.Common.{◌≡◌, ℕ, suc, ◌+◌, ◌<◌, Bool, true, false, cond, List, [], ◌∷◌, ◌++◌, length, decimal, sym, refl, ap, ◌∙◌, append_assoc, append-nil, add-one, arith, length-append}
use Rattle.make.specs.declared.kind.Kind.{Kind}
use Rattle.make.specs.Data.{MakeSpec}
use Rattle.chain.specs.Blocks.{next_in, prev_in}
use Rattle.ledger.specs.Ledger.{Store, holding, owner}
use Rattle.ledger.specs.Replies.{reply, listed, shown}
use Rattle.sheet.specs.Sheet.{names, row, is_row, headed, rows_to, type_cell}

-- whether there are any bytes
abbrev pub some : List ℕ → Bool
some [] = false
some (c ∷ cs) = true

some_behind : (xs ys : List ℕ) → 0 < length ys → some (xs ++ ys) ≡ true
some_behind [] [] h = absurd (omega arith)
some_behind [] (y ∷ ys) h = refl
some_behind (x ∷ xs) ys h = refl

headed_some : (t xs : List ℕ) → 0 < length xs → headed t xs ≡ t ++ xs
headed_some t [] h = absurd (omega arith)
headed_some t (x ∷ xs) h = refl

ends_some : (a b : List ℕ) → 0 < length (a ++ (b ++ (13 ∷ [])))
ends_some a b = omega (arith, length-append a (b ++ (13 ∷ [])), length-append b (13 ∷ []))

reply_some : (name : List ℕ) (ts : List (List ℕ)) → 0 < length (reply name ts)
reply_some name ts = ends_some name (listed ts)

row_some : (S : MakeSpec) (L : Store) (i : ℕ) → 0 < length (row S L i)
unfolding row
row_some S L i = reply_some (decimal i) ((shown (owner L i) ∷ shown (prev_in L.blocks i) ∷ shown (next_in L.blocks i) ∷ []) ++ (type_cell S (holding L i).kind (holding L i).system_type ++ (holding L i).texts))

-- one row more
headed_more : (e t rs w : List ℕ) → 0 < length w → ((e ++ headed t rs) ++ cond (some rs) [] t) ++ w ≡ e ++ headed t (rs ++ w)
headed_more e t [] w h = ap (λ z. (z ++ t) ++ w) (append-nil e) ∙ append_assoc e t w ∙ ap (λ z. e ++ z) (sym (headed_some t w h))
headed_more e t (c ∷ cs) w h = ap (λ z. z ++ w) (append-nil (e ++ (t ++ (c ∷ cs)))) ∙ append_assoc e (t ++ (c ∷ cs)) w ∙ ap (λ z. e ++ z) (append_assoc t (c ∷ cs) w)

module _ (S : MakeSpec) (L : Store) (k : Kind) where
  pub row_more : (i : ℕ) (e o o' : List ℕ) (named : Bool) → is_row L k (i + 1) ≡ true → o ≡ e ++ headed (names S k) (rows_to S L k i) → named ≡ some (rows_to S L k i) → o' ≡ (o ++ cond named [] (names S k)) ++ row S L (i + 1) → (o' ≡ e ++ headed (names S k) (rows_to S L k (i + 1))) × (true ≡ some (rows_to S L k (i + 1)))
  row_more i e o o' named is was n now =
      let rs = rows_to S L k i in
      let w = row S L (suc i) in
      let more : rows_to S L k (i + 1) ≡ rs ++ w = ap (rows_to S L k) (add-one i) ∙ ap (λ b. rs ++ cond b w []) (ap (is_row L k) (sym (add-one i)) ∙ is) in (
        now ∙ ap (λ z. (z ++ cond named [] (names S k)) ++ row S L (i + 1)) was ∙ ap (λ b. ((e ++ headed (names S k) rs) ++ cond b [] (names S k)) ++ row S L (i + 1)) n ∙ ap (λ j. ((e ++ headed (names S k) rs) ++ cond (some rs) [] (names S k)) ++ row S L j) (add-one i) ∙ headed_more e (names S k) rs w (row_some S L (suc i)) ∙ ap (λ z. e ++ headed (names S k) z) (sym more),
        sym (ap some more ∙ some_behind rs w (row_some S L (suc i))),
      )

  pub row_none : (i : ℕ) → is_row L k (i + 1) ≡ false → rows_to S L k (i + 1) ≡ rows_to S L k i
  row_none i is = ap (rows_to S L k) (add-one i) ∙ ap (λ b. rows_to S L k i ++ cond b (row S L (suc i)) []) (ap (is_row L k) (sym (add-one i)) ∙ is) ∙ append-nil (rows_to S L k i)
