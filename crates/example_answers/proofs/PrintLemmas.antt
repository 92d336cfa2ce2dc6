-- What is printed, answer by answer.
use Rattle.std.proofs.Common.{◌≡◌, ◌∙◌, ℕ, ◌+◌, ◌<◌, Bool, true, false, List, [], ◌∷◌, ◌++◌, Option, Result, Ok}
use Rattle.std.proofs.Common.{Err, OnErr, max, map}
use Rattle.std.proofs.Common.{◌≤◌, length, take, refl, sym, ap, subst, append_assoc, append-nil, get_or}
use Rattle.std.proofs.KnownBytes.{Appends-kept, Appends-nil, Appends-trans}
use Rattle.std.proofs.lemmas.List.{flat_map_more, map_more, map-append, take-map, take_all}
use Rattle.std.proofs.lemmas.List.Sums.{fold-append}
use Rattle.std.proofs.Math.Seq.{take-length}
use Rattle.script_text.proofs.Calls.{GivesUp-after, GoesWell-trans}
use Rattle.example_answers.proofs.Words.{AllZip, Answered, Appends, AreAnswers, AreFirstAnswers, empty_line, fold, gap}
use Rattle.example_answers.proofs.Words.{GoesWell, is_first_after, IsErrAnd, Keeps, NumberedWords, Outcome, Picked}
use Rattle.example_answers.proofs.Words.{printed, PrintFault, PrintingEnds, Prints, status_of, TakesSome, worst_status}
use Rattle.example_answers.proofs.Words.{WritingEnds}

module _ {A B : Type 0} (R : A → B → Type 0) where
  -- two more items
  AllZip-more : (xs : List A) (ys : List B) (x : A) (y : B) → AllZip R xs ys → R x y
      → AllZip R (xs ++ x ∷ []) (ys ++ y ∷ [])
  AllZip-more [] [] x y h r = (r, tt)
  AllZip-more [] (v ∷ ys) x y h r = absurd h
  AllZip-more (u ∷ xs) [] x y h r = absurd h
  AllZip-more (u ∷ xs) (v ∷ ys) x y h r = (h.0, AllZip-more xs ys x y h.1 r)

  -- two lists of one length: behind both or neither there is a first answer
  pub same_after : (is_first : Bool) (xs : List A) (ys : List B) → AllZip R xs ys
      → is_first_after is_first ys ≡ is_first_after is_first xs
  same_after is_first [] [] h = refl
  same_after is_first [] (v ∷ ys) h = absurd h
  same_after is_first (u ∷ xs) [] h = absurd h
  same_after is_first (u ∷ xs) (v ∷ ys) h = refl

-- one answer more
printed-more : (is_first : Bool) (given : List Answered) (answer : Answered) → printed is_first (given ++ answer ∷ [])
    ≡ printed is_first given ++ (gap (is_first_after is_first given) ++ answer.text)
printed-more true [] answer = append-nil answer.text
printed-more true (x ∷ given) answer =
    sym (flat_map_more (λ (a : Answered). empty_line ++ a.text) x.text given answer)
printed-more false [] answer = append-nil (empty_line ++ answer.text)
printed-more false (x ∷ given) answer =
    sym (flat_map_more (λ (a : Answered). empty_line ++ a.text) (empty_line ++ x.text) given answer)

worst_status-more : (given : List Answered) (answer : Answered)
    → worst_status (given ++ answer ∷ []) ≡ max (worst_status given) (status_of answer.outcome)
worst_status-more given answer =
    let status = λ (a : Answered). status_of a.outcome in
    ap (fold max 0) (map-append status given (answer ∷ []))
    ∙ fold-append max 0 (map status given) (status answer ∷ [])

is_first_after-more : (is_first : Bool) (given : List Answered) (answer : Answered)
    → is_first_after is_first (given ++ answer ∷ []) ≡ false
is_first_after-more is_first [] answer = refl
is_first_after-more is_first (x ∷ given) answer = refl

-- the next of what is made of some items
pub next_of : {X Y : Type 0} (f : X → Y) (xs : List X) (i : ℕ) (x : X) → i < length xs → x ≡ get_or xs i x
    → take (i + 1) (map f xs) ≡ take i (map f xs) ++ f x ∷ []
next_of f xs i x less is =
    take-map f (i + 1) xs ∙ map_more f xs i x less ∙ ap (λ l. l ++ f (get_or xs i x) ∷ []) (sym (take-map f i xs))
    ∙ ap (λ y. take i (map f xs) ++ f y ∷ []) (sym is)

module _ (Answers : List NumberedWords → Outcome → List ℕ → Type 0) where
  -- an index has this answer
  abbrev IsAnswered : List NumberedWords → Answered → Type 0
  IsAnswered lines answer = Answers lines answer.outcome answer.text

  -- the first indexes, of this count, are answered, and the answers written
  pub record SoFar (is_first : Bool) (indexes : List (List NumberedWords)) (count : ℕ) (held held' : Option (List ℕ))
      (is_next_first : Bool) (worst : Outcome) : Type 0 where
    pub given : List Answered
    pub answered : AreAnswers Answers (take count indexes) given
    pub written : Appends held held' (printed is_first given)
    pub next : is_next_first ≡ is_first_after is_first given
    pub status : status_of worst ≡ worst_status given

  none_written : (is_first : Bool) (held : Option (List ℕ)) → Appends held held (printed is_first [])
  none_written true held = Appends-nil held
  none_written false held = Appends-nil held

  pub so_far_none : (is_first : Bool) (indexes : List (List NumberedWords)) (held : Option (List ℕ))
      → SoFar is_first indexes 0 held held is_first Picked
  so_far_none is_first indexes held =
      record { given = []; answered = tt; written = none_written is_first held; next = refl; status = refl }

  module _ (is_first : Bool) (indexes : List (List NumberedWords)) (held held' : Option (List ℕ)) where
    pub so_far_more : (count : ℕ) (index : List NumberedWords) (held'' : Option (List ℕ)) (is_next_first next' : Bool)
        (worst worse outcome : Outcome) (text : List ℕ)
        → SoFar is_first indexes count held held' is_next_first worst
        → take (count + 1) indexes ≡ take count indexes ++ index ∷ [] → Answers index outcome text
        → Appends held' held'' (gap is_next_first ++ text)
        → next' ≡ false → status_of worse ≡ max (status_of worst) (status_of outcome)
        → SoFar is_first indexes (count + 1) held held'' next' worse
    so_far_more count index held'' is_next_first next' worst worse outcome text so_far more answers writes none
        is_worse =
        let given = so_far.given in
        let answer : Answered = record { outcome = outcome; text = text } in
        record {
          given = given ++ answer ∷ [];
          answered = subst (λ l. AreAnswers Answers l (given ++ answer ∷ [])) (sym more)
              (AllZip-more IsAnswered (take count indexes) given index answer so_far.answered answers);
          written = subst (Appends held held'') (sym (printed-more is_first given answer))
              (Appends-trans held held' held'' (printed is_first given)
              (gap (is_first_after is_first given) ++ text) so_far.written
              (subst (λ b. Appends held' held'' (gap b ++ text)) so_far.next writes));
          next = none ∙ sym (is_first_after-more is_first given answer);
          status = is_worse ∙ ap (λ s. max s (status_of outcome)) so_far.status ∙ sym (worst_status-more given answer);
        }

    -- what the writer took if the device failed at an answer
    pub failed_at : (count : ℕ) (index : List NumberedWords) (held'' : Option (List ℕ)) (is_next_first : Bool)
        (worst outcome : Outcome) (text : List ℕ) → SoFar is_first indexes count held held' is_next_first worst
        → take (count + 1) indexes ≡ take count indexes ++ index ∷ [] → Answers index outcome text
        → TakesSome held' (gap is_next_first ++ text) held''
        → (given : List Answered) × AreFirstAnswers Answers indexes given
        × TakesSome held (printed is_first given) held''
    failed_at count index held'' is_next_first worst outcome text so_far more answers takes =
        let given = so_far.given in
        let answer : Answered = record { outcome = outcome; text = text } in
        let before = printed is_first given in (
          given ++ answer ∷ [],
          (
            count + 1,
            subst (λ l. AreAnswers Answers l (given ++ answer ∷ [])) (sym more)
                (AllZip-more IsAnswered (take count indexes) given index answer so_far.answered answers),
          ),
          (
            before ++ takes.0,
            takes.1,
            Appends-trans held held' held'' before takes.0 so_far.written takes.2,
            append_assoc before takes.0 takes.1 ∙ ap (λ l. before ++ l) takes.3
                ∙ ap (λ b. before ++ (gap b ++ text)) so_far.next ∙ sym (printed-more is_first given answer),
          ),
        )

    -- all indexes are answered
    pub all_answered : (count : ℕ) (is_next_first : Bool) (worst : Outcome)
        → SoFar is_first indexes count held held' is_next_first worst → length indexes ≤ count
        → Prints Answers is_first indexes held (Ok worst) held'
    all_answered count is_next_first worst so_far all = (
      so_far.given,
      subst (λ l. AreAnswers Answers l so_far.given) (take_all count indexes all) so_far.answered,
      so_far.written,
      so_far.status,
    )

    pub first_after_all : (count : ℕ) (is_next_first : Bool) (worst : Outcome)
        → SoFar is_first indexes count held held' is_next_first worst → length indexes ≤ count
        → is_next_first ≡ is_first_after is_first indexes
    first_after_all count is_next_first worst so_far all =
        so_far.next ∙ same_after IsAnswered is_first indexes so_far.given
        (subst (λ l. AreAnswers Answers l so_far.given) (take_all count indexes all) so_far.answered)

    -- what is so of a fault is so of a result that tells it
    pub prints_so : (r : Result Outcome PrintFault) (fault : PrintFault)
        → IsErrAnd r (λ f. f ≡ fault) → Prints Answers is_first indexes held (Err fault) held'
        → Prints Answers is_first indexes held r held'
    prints_so (Ok w) fault is prints = absurd is
    prints_so (Err f) fault is prints =
        subst (λ e. Prints Answers is_first indexes held (Err e) held') (sym is) prints

    -- what the writer took if the flush went well
    pub flushed : (held'' : Option (List ℕ)) (worst : Outcome)
        → Prints Answers is_first indexes held (Ok worst) held' → Keeps held' held''
        → Prints Answers is_first indexes held (Ok worst) held''
    flushed held'' worst prints keeps =
        (prints.0, prints.1, Appends-kept held held' held'' (printed is_first prints.0) prints.2 keeps, prints.3)

    -- what it took if the flush failed
    pub unflushed : (held'' : Option (List ℕ)) (worst : Outcome)
        → Prints Answers is_first indexes held (Ok worst) held' → Keeps held' held''
        → (given : List Answered) × AreFirstAnswers Answers indexes given
        × TakesSome held (printed is_first given) held''
    unflushed held'' worst prints keeps =
        let given = prints.0 in (
          given,
          (length indexes, subst (λ l. AreAnswers Answers l given) (sym (take-length indexes)) prints.1),
          (
            printed is_first given,
            [],
            Appends-kept held held' held'' (printed is_first prints.0) prints.2 keeps,
            append-nil (printed is_first given),
          ),
        )

module _ {S : Type 0} (writes fails : S → S → Type 0) where
  -- what is so of a fault is so of a result that tells it
  pub ends_so : {T : Type 0} (s t : S) (r : Result T PrintFault) (fault : PrintFault)
      → IsErrAnd r (λ f. f ≡ fault) → PrintingEnds writes fails {T = T} s (Err fault) t
      → PrintingEnds writes fails s r t
  ends_so s t (Ok v) fault is ends = absurd is
  ends_so {T} s t (Err f) fault is ends = subst (λ e. PrintingEnds writes fails {T = T} s (Err e) t) (sym is) ends

module _ {T E : Type 0} where
  pub any_err : {P : Type 0} (r : Result T E) → P → OnErr r P
  any_err (Ok t) h = tt
  any_err (Err e) h = h

  -- what is written behind a text
  pub takes_behind : (a b c : Option (List ℕ)) (before text : List ℕ) (r : Result T E) → Appends a b before
      → OnErr r (TakesSome b text c) → OnErr r (TakesSome a (before ++ text) c)
  takes_behind a b c before text (Ok t) h k = tt
  takes_behind a b c before text (Err e) h k = (
    before ++ k.0,
    k.1,
    Appends-trans a b c before k.0 h k.2,
    append_assoc before k.0 k.1 ∙ ap (λ l. before ++ l) k.3,
  )

  module _ {S : Type 0} (writes fails : S → S → Type 0) where
    -- what ends a writing ends a longer one
    pub ends_behind : (s m t : S) (r : Result T E) → GoesWell writes fails s m → WritingEnds writes fails m r t
        → WritingEnds writes fails s r t
    ends_behind s m t (Ok v) h on = GoesWell-trans writes fails s m t h on
    ends_behind s m t (Err e) h on = GivesUp-after writes fails s m t h on

-- a beginning of a text begins a longer one
pub takes_more : (a b : Option (List ℕ)) (text more : List ℕ) → TakesSome a text b → TakesSome a (text ++ more) b
takes_more a b text more h = (
  h.0,
  h.1 ++ more,
  h.2,
  sym (append_assoc h.0 h.1 more) ∙ ap (λ l. l ++ more) h.3,
)
