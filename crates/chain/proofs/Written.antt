-- What a write of links leaves, block by block. Assumes nothing.
use Rattle.std.proofs.Common.{◌≡◌, ℕ, ◌-◌, ◌≤◌, true, cond, ◌≢◌, List, length, get_or, drop, set, is_some, Some, sym, refl, ap, ◌∙◌, inl, inr, arith, length-set}
use Rattle.std.proofs.lemmas.List.{get_or-set_same, get_or-set_other, drop-set-lt}
use Rattle.std.proofs.lemmas.Bool.{cases_eq, cases_lt, lt-ltb, le-ltb, false≢true}
use Rattle.chain.specs.declared.link.Branch.{Branch}
use Rattle.chain.specs.declared.link.Branch.TheVariants.{First, Second}
use Rattle.chain.specs.declared.link.Chain.{Chain}
use Rattle.chain.specs.declared.link.Chain.TheVariants.{Root, Members}
use Rattle.chain.specs.declared.link.Ends.{Ends}
use Rattle.chain.specs.declared.link.Link.{Link}
use Rattle.chain.specs.declared.link.Link.TheVariants.{Free, Used}
use Rattle.chain.specs.Entry.{Entry, entry, link_at, ends_in, ends_at, chain_at, number, nowhere, no_ends, first_of, second_of, changed, with_next, with_previous, with_ends, ends_with, ends_without, hung, root_with, Within}
use Rattle.chain.proofs.Numbers.{Owned, at_owned, number_at, at_number, within_owned, within_more, ends_first, ends_second, ends_number}
use Rattle.chain.proofs.Added.{Appended}
use Rattle.chain.proofs.Removed.{Unlinked, Freeing}

-- one link is written
slot_same : (t : List Link) (p : ℕ) (v : Link) → 1 ≤ p → p ≤ length t → get_or (set t (p - 1) v) (p - 1) nowhere ≡ v
slot_same t p v p1 pt = get_or-set_same t (p - 1) v nowhere (omega arith)

slot_else : (t : List Link) (p i : ℕ) (v : Link) → 1 ≤ p → 1 ≤ i → i ≢ p → get_or (set t (p - 1) v) (i - 1) nowhere ≡ get_or t (i - 1) nowhere
slot_else t p i v p1 i1 ne = get_or-set_other t (p - 1) (i - 1) v nowhere (omega arith)

module _ (t : List Link) (p : ℕ) (g : Link → Link) where
  at_block : 1 ≤ p → changed t p g ≡ set t (p - 1) (g (get_or t (p - 1) nowhere))
  at_block p1 = ap (λ b. cond b (set t (p - 1) (g (get_or t (p - 1) nowhere))) t) (lt-ltb 0 p p1)

  at_none : p ≤ 0 → changed t p g ≡ t
  at_none p0 = ap (λ b. cond b (set t (p - 1) (g (get_or t (p - 1) nowhere))) t) (le-ltb 0 p p0)

  pub changed_same : 1 ≤ p → p ≤ length t → get_or (changed t p g) (p - 1) nowhere ≡ g (get_or t (p - 1) nowhere)
  changed_same p1 pt = ap (λ z. get_or z (p - 1) nowhere) (at_block p1) ∙ slot_same t p _ p1 pt

  pub changed_else : (i : ℕ) → 1 ≤ i → i ≢ p → get_or (changed t p g) (i - 1) nowhere ≡ get_or t (i - 1) nowhere
  changed_else i i1 ne = elim (cases_lt 0 p) [
    | inl p1 ↦ ap (λ z. get_or z (i - 1) nowhere) (at_block p1) ∙ slot_else t p i _ p1 i1 ne
    | inr p0 ↦ ap (λ z. get_or z (i - 1) nowhere) (at_none p0)
  ]

  -- what the change leaves of a link
  pub changed_field : {X : Type 0} (P : Link → X) → ((l : Link) → P (g l) ≡ P l) → p ≤ length t → (i : ℕ) → 1 ≤ i → P (get_or (changed t p g) (i - 1) nowhere) ≡ P (get_or t (i - 1) nowhere)
  changed_field P keeps pt i i1 = elim (cases_eq i p) [
    | inl is ↦ ap (λ z. P (get_or (changed t p g) (z - 1) nowhere)) is ∙ ap P (changed_same (omega (arith, is, i1)) pt) ∙ keeps _ ∙ ap (λ z. P (get_or t (z - 1) nowhere)) (sym is)
    | inr ne ↦ ap P (changed_else i i1 ne)
  ]

  pub changed_long : length (changed t p g) ≡ length t
  changed_long = elim (cases_lt 0 p) [
    | inl p1 ↦ ap length (at_block p1) ∙ length-set t (p - 1) _
    | inr p0 ↦ ap length (at_none p0)
  ]

  pub changed_later : (n : ℕ) → p ≤ n → drop n (changed t p g) ≡ drop n t
  changed_later n pn = elim (cases_lt 0 p) [
    | inl p1 ↦ ap (drop n) (at_block p1) ∙ drop-set-lt n t (p - 1) _ (omega arith)
    | inr p0 ↦ ap (drop n) (at_none p0)
  ]

-- the parts of a link that a change leaves, and those that it writes
next_next : (v : ℕ) (l : Link) → is_some (entry l).home ≡ true → (entry (with_next v l)).next ≡ v
next_next v (Free n) h = absurd (false≢true h)
next_next v (Used m) h = refl

next_rest : (v : ℕ) (l : Link) → ((entry (with_next v l)).prev ≡ (entry l).prev) × ((entry (with_next v l)).home ≡ (entry l).home) × ((entry (with_next v l)).first ≡ (entry l).first) × ((entry (with_next v l)).second ≡ (entry l).second)
next_rest v (Free n) = (refl, refl, refl, refl)
next_rest v (Used m) = (refl, refl, refl, refl)

prev_prev : (v : ℕ) (l : Link) → is_some (entry l).home ≡ true → (entry (with_previous v l)).prev ≡ v
prev_prev v (Free n) h = absurd (false≢true h)
prev_prev v (Used m) h = refl

prev_rest : (v : ℕ) (l : Link) → ((entry (with_previous v l)).next ≡ (entry l).next) × ((entry (with_previous v l)).home ≡ (entry l).home) × ((entry (with_previous v l)).first ≡ (entry l).first) × ((entry (with_previous v l)).second ≡ (entry l).second)
prev_rest v (Free n) = (refl, refl, refl, refl)
prev_rest v (Used m) = (refl, refl, refl, refl)

ends_rest : (b : Branch) (e : Ends) (l : Link) → ((entry (with_ends b e l)).next ≡ (entry l).next) × ((entry (with_ends b e l)).prev ≡ (entry l).prev) × ((entry (with_ends b e l)).home ≡ (entry l).home)
ends_rest First e (Free n) = (refl, refl, refl)
ends_rest Second e (Free n) = (refl, refl, refl)
ends_rest First e (Used m) = (refl, refl, refl)
ends_rest Second e (Used m) = (refl, refl, refl)

first_first : (e : Ends) (l : Link) → is_some (entry l).home ≡ true → (entry (with_ends First e l)).first ≡ e
first_first e (Free n) h = absurd (false≢true h)
first_first e (Used m) h = refl

second_second : (e : Ends) (l : Link) → is_some (entry l).home ≡ true → (entry (with_ends Second e l)).second ≡ e
second_second e (Free n) h = absurd (false≢true h)
second_second e (Used m) h = refl

first_second : (e : Ends) (l : Link) → (entry (with_ends First e l)).second ≡ (entry l).second
first_second e (Free n) = refl
first_second e (Used m) = refl

second_first : (e : Ends) (l : Link) → (entry (with_ends Second e l)).first ≡ (entry l).first
second_first e (Free n) = refl
second_first e (Used m) = refl

-- the owner of a chain is in use
abbrev pub Busy : (ℕ → Entry) → Chain → Type 0
Busy f Root = Unit {0}
Busy f (Members i b) = is_some (f i.number).home ≡ true

-- a chain gets other ends
module _ (t : List Link) (root : Ends) (e : Ends) where
  pub hung_field : {X : Type 0} (P : Link → X) → ((b : Branch) (l : Link) → P (with_ends b e l) ≡ P l) → (chain : Chain) → Within (length t) chain → (i : ℕ) → 1 ≤ i → P (get_or (hung t chain e) (i - 1) nowhere) ≡ P (get_or t (i - 1) nowhere)
  hung_field P keeps Root w i i1 = refl
  hung_field P keeps (Members j b) w i i1 = changed_field t j.number (with_ends b e) P (keeps b) w.1 i i1

  pub hung_long : (chain : Chain) → length (hung t chain e) ≡ length t
  hung_long Root = refl
  hung_long (Members j b) = changed_long t j.number (with_ends b e)

  pub hung_later : (n : ℕ) (chain : Chain) → Within n chain → drop n (hung t chain e) ≡ drop n t
  hung_later n Root w = refl
  hung_later n (Members j b) w = changed_later t j.number (with_ends b e) n w.1

  hung_here : (chain : Chain) → Within (length t) chain → Busy (link_at t) chain → ends_in (root_with root chain e) (link_at (hung t chain e)) chain ≡ e
  hung_here Root w u = refl
  hung_here (Members j First) w u = ap (λ l. (entry l).first) (changed_same t j.number (with_ends First e) w.0 w.1) ∙ first_first e _ u
  hung_here (Members j Second) w u = ap (λ l. (entry l).second) (changed_same t j.number (with_ends Second e) w.0 w.1) ∙ second_second e _ u

  hung_else : (chain d : Chain) → Within (length t) chain → Owned d → number d ≢ number chain → ends_in (root_with root chain e) (link_at (hung t chain e)) d ≡ ends_in root (link_at t) d
  hung_else Root Root w o ne = absurd (ne refl)
  hung_else Root (Members i First) w o ne = refl
  hung_else Root (Members i Second) w o ne = refl
  hung_else (Members j b) Root w o ne = refl
  hung_else (Members j First) (Members i First) w o ne = ap (λ l. (entry l).first) (changed_else t j.number (with_ends First e) i.number o (λ is. ne (ap first_of is)))
  hung_else (Members j First) (Members i Second) w o ne = changed_field t j.number (with_ends First e) (λ l. (entry l).second) (first_second e) w.1 i.number o
  hung_else (Members j Second) (Members i First) w o ne = changed_field t j.number (with_ends Second e) (λ l. (entry l).first) (second_first e) w.1 i.number o
  hung_else (Members j Second) (Members i Second) w o ne = ap (λ l. (entry l).second) (changed_else t j.number (with_ends Second e) i.number o (λ is. ne (ap second_of is)))

  module _ (chain : Chain) (w : Within (length t) chain) where
    pub here_at : Busy (link_at t) chain → ends_at (root_with root chain e) (link_at (hung t chain e)) (number chain) ≡ e
    here_at u = ends_number (root_with root chain e) (link_at (hung t chain e)) chain (within_owned _ chain w) ∙ hung_here chain w u

    pub else_at : (d : ℕ) → d ≢ number chain → ends_at (root_with root chain e) (link_at (hung t chain e)) d ≡ ends_at root (link_at t) d
    else_at d ne = hung_else chain (chain_at d) w (at_owned d) (λ is. ne (sym (number_at d) ∙ is))

-- ends that a write leaves
pub same_ends : (root : Ends) (f f' : ℕ → Entry) → ((i : ℕ) → 1 ≤ i → (f' i).first ≡ (f i).first) → ((i : ℕ) → 1 ≤ i → (f' i).second ≡ (f i).second) → (c : Chain) → Owned c → ends_in root f' c ≡ ends_in root f c
same_ends root f f' one two Root o = refl
same_ends root f f' one two (Members i First) o = one i.number o
same_ends root f f' one two (Members i Second) o = two i.number o

pub other_ends : (root : Ends) (t : List Link) (x : ℕ) (v : Link) → 1 ≤ x → (c : Chain) → Owned c → number c ≢ first_of x → number c ≢ second_of x → ends_in root (link_at (set t (x - 1) v)) c ≡ ends_in root (link_at t) c
other_ends root t x v x1 Root o n1 n2 = refl
other_ends root t x v x1 (Members i First) o n1 n2 = ap (λ l. (entry l).first) (slot_else t x i.number v x1 o (λ is. n1 (ap first_of is)))
other_ends root t x v x1 (Members i Second) o n1 n2 = ap (λ l. (entry l).second) (slot_else t x i.number v x1 o (λ is. n2 (ap second_of is)))

-- the front free block goes behind a chain
module _ (t : List Link) (root : Ends) (chain : Chain) (x : ℕ) (x1 : 1 ≤ x) (xt : x ≤ length t) (w : Within (length t) chain)
    (n1 : number chain ≢ first_of x) (n2 : number chain ≢ second_of x) (nl : (ends_in root (link_at t) chain).tail ≢ x) (lt : (ends_in root (link_at t) chain).tail ≤ length t)
    (last : 1 ≤ (ends_in root (link_at t) chain).tail → is_some (link_at t (ends_in root (link_at t) chain).tail).home ≡ true) (u : Busy (link_at t) chain) where
  abbrev t₁ : List Link
  t₁ = set t (x - 1) (Used (record { previous = (ends_in root (link_at t) chain).tail; next = 0; chain = chain; first = no_ends; second = no_ends }))

  abbrev t₂ : List Link
  t₂ = changed t₁ (ends_in root (link_at t) chain).tail (with_next x)

  abbrev pub behind_table : List Link
  behind_table = hung t₂ chain (ends_with (ends_in root (link_at t) chain) x)

  long₁ : length t₁ ≡ length t
  long₁ = length-set t (x - 1) _

  long₂ : length t₂ ≡ length t
  long₂ = changed_long t₁ (ends_in root (link_at t) chain).tail (with_next x) ∙ long₁

  pub behind_long : length behind_table ≡ length t
  behind_long = hung_long t₂ root (ends_with (ends_in root (link_at t) chain) x) chain ∙ long₂

  pub behind_later : (n : ℕ) → x ≤ n → (ends_in root (link_at t) chain).tail ≤ n → Within n chain → drop n behind_table ≡ drop n t
  behind_later n xn ln wn = hung_later t₂ root (ends_with (ends_in root (link_at t) chain) x) n chain wn ∙ changed_later t₁ (ends_in root (link_at t) chain).tail (with_next x) n ln ∙ drop-set-lt n t (x - 1) _ (omega (arith, x1, xn))

  w₂ : Within (length t₂) chain
  w₂ = within_more (length t) (length t₂) chain (omega (arith, long₂)) w

  u₂ : (c : Chain) → Owned c → Busy (link_at t) c → number c ≢ first_of x → number c ≢ second_of x → Busy (link_at t₂) c
  u₂ Root o b m1 m2 = tt
  u₂ (Members i First) o b m1 m2 = ap is_some (changed_field t₁ (ends_in root (link_at t) chain).tail (with_next x) (λ l. (entry l).home) (λ l. (next_rest x l).1) (omega (arith, lt, long₁)) i.number o) ∙ ap (λ l. is_some (entry l).home) (slot_else t x i.number _ x1 o (λ is. m1 (ap first_of is))) ∙ b
  u₂ (Members i Second) o b m1 m2 = ap is_some (changed_field t₁ (ends_in root (link_at t) chain).tail (with_next x) (λ l. (entry l).home) (λ l. (next_rest x l).1) (omega (arith, lt, long₁)) i.number o) ∙ ap (λ l. is_some (entry l).home) (slot_else t x i.number _ x1 o (λ is. m2 (ap second_of is))) ∙ b

  e₀ : ends_at root (link_at t) (number chain) ≡ ends_in root (link_at t) chain
  e₀ = ends_number root (link_at t) chain (within_owned _ chain w)

  e₃ : ends_at (root_with root chain (ends_with (ends_in root (link_at t) chain) x)) (link_at behind_table) (number chain) ≡ ends_with (ends_in root (link_at t) chain) x
  e₃ = here_at t₂ root (ends_with (ends_in root (link_at t) chain) x) chain w₂ (u₂ chain (within_owned _ chain w) u n1 n2)

  next₃ : (i : ℕ) → 1 ≤ i → (link_at behind_table i).next ≡ (link_at t₂ i).next
  next₃ i i1 = hung_field t₂ root (ends_with (ends_in root (link_at t) chain) x) (λ l. (entry l).next) (λ b l. (ends_rest b _ l).0) chain w₂ i i1

  prev₃ : (i : ℕ) → 1 ≤ i → (link_at behind_table i).prev ≡ (link_at t₁ i).prev
  prev₃ i i1 = hung_field t₂ root (ends_with (ends_in root (link_at t) chain) x) (λ l. (entry l).prev) (λ b l. (ends_rest b _ l).1) chain w₂ i i1 ∙ changed_field t₁ (ends_in root (link_at t) chain).tail (with_next x) (λ l. (entry l).prev) (λ l. (next_rest x l).0) (omega (arith, lt, long₁)) i i1

  home₃ : (i : ℕ) → 1 ≤ i → (link_at behind_table i).home ≡ (link_at t₁ i).home
  home₃ i i1 = hung_field t₂ root (ends_with (ends_in root (link_at t) chain) x) (λ l. (entry l).home) (λ b l. (ends_rest b _ l).2) chain w₂ i i1 ∙ changed_field t₁ (ends_in root (link_at t) chain).tail (with_next x) (λ l. (entry l).home) (λ l. (next_rest x l).1) (omega (arith, lt, long₁)) i i1

  next₂ : (i : ℕ) → 1 ≤ i → i ≢ (ends_in root (link_at t) chain).tail → (link_at t₂ i).next ≡ (link_at t₁ i).next
  next₂ i i1 ne = ap (λ l. (entry l).next) (changed_else t₁ (ends_in root (link_at t) chain).tail (with_next x) i i1 ne)

  first₂ : (d : ℕ) → ends_at root (link_at t₂) d ≡ ends_at root (link_at t₁) d
  first₂ d = same_ends root (link_at t₁) (link_at t₂)
      (λ i i1. changed_field t₁ (ends_in root (link_at t) chain).tail (with_next x) (λ l. (entry l).first) (λ l. (next_rest x l).2) (omega (arith, lt, long₁)) i i1)
      (λ i i1. changed_field t₁ (ends_in root (link_at t) chain).tail (with_next x) (λ l. (entry l).second) (λ l. (next_rest x l).3) (omega (arith, lt, long₁)) i i1) (chain_at d) (at_owned d)

  pub appended : Appended (link_at t) (link_at behind_table) (ends_at root (link_at t)) (ends_at (root_with root chain (ends_with (ends_in root (link_at t) chain) x)) (link_at behind_table)) x (number chain)
  appended = record {
    next_x = next₃ x x1 ∙ next₂ x x1 (λ is. nl (sym is)) ∙ ap (λ l. (entry l).next) (slot_same t x _ x1 xt);
    prev_x = prev₃ x x1 ∙ ap (λ l. (entry l).prev) (slot_same t x _ x1 xt) ∙ ap (λ e. e.tail) (sym e₀);
    home_x = home₃ x x1 ∙ ap (λ l. (entry l).home) (slot_same t x _ x1 xt) ∙ ap Some (sym (at_number chain (within_owned _ chain w)));
    next_l = λ h. let h' : 1 ≤ (ends_in root (link_at t) chain).tail = omega (arith, h, ap (λ e. e.tail) e₀) in
        ap (λ i. (link_at behind_table i).next) (ap (λ e. e.tail) e₀) ∙ next₃ _ h' ∙ ap (λ l. (entry l).next) (changed_same t₁ (ends_in root (link_at t) chain).tail (with_next x) h' (omega (arith, lt, long₁)))
        ∙ next_next x _ (ap (λ l. is_some (entry l).home) (slot_else t x _ _ x1 h' nl) ∙ last h');
    next_else = λ i i1 nx ni. next₃ i i1 ∙ next₂ i i1 (λ is. ni (is ∙ ap (λ e. e.tail) (sym e₀))) ∙ ap (λ l. (entry l).next) (slot_else t x i _ x1 i1 nx);
    prev_else = λ i i1 nx. prev₃ i i1 ∙ ap (λ l. (entry l).prev) (slot_else t x i _ x1 i1 nx);
    home_else = λ i i1 nx. home₃ i i1 ∙ ap (λ l. (entry l).home) (slot_else t x i _ x1 i1 nx);
    head_new = λ z. ap (λ e. e.head) e₃ ∙ ap (λ b. cond b (ends_in root (link_at t) chain).head x) (le-ltb 0 _ (omega (arith, z, ap (λ e. e.tail) e₀)));
    head_old = λ z. ap (λ e. e.head) e₃ ∙ ap (λ b. cond b (ends_in root (link_at t) chain).head x) (lt-ltb 0 _ (omega (arith, z, ap (λ e. e.tail) e₀))) ∙ ap (λ e. e.head) (sym e₀);
    tail_c = ap (λ e. e.tail) e₃;
    ends_first = else_at t₂ root (ends_with (ends_in root (link_at t) chain) x) chain w₂ (first_of x) (λ is. n1 (sym is)) ∙ first₂ (first_of x) ∙ ends_first root (link_at t₁) x x1 ∙ ap (λ l. (entry l).first) (slot_same t x _ x1 xt);
    ends_second = else_at t₂ root (ends_with (ends_in root (link_at t) chain) x) chain w₂ (second_of x) (λ is. n2 (sym is)) ∙ first₂ (second_of x) ∙ ends_second root (link_at t₁) x x1 ∙ ap (λ l. (entry l).second) (slot_same t x _ x1 xt);
    ends_else = λ d nc m1 m2. else_at t₂ root (ends_with (ends_in root (link_at t) chain) x) chain w₂ d nc ∙ first₂ d ∙ other_ends root t x _ x1 (chain_at d) (at_owned d) (λ is. m1 (sym (number_at d) ∙ is)) (λ is. m2 (sym (number_at d) ∙ is));
  }

-- a block leaves its chain
module _ (t : List Link) (root : Ends) (chain : Chain) (x : ℕ) (w : Within (length t) chain) (pt : (link_at t x).prev ≤ length t) (qt : (link_at t x).next ≤ length t)
    (before : 1 ≤ (link_at t x).prev → is_some (link_at t (link_at t x).prev).home ≡ true) (behind : 1 ≤ (link_at t x).next → is_some (link_at t (link_at t x).next).home ≡ true) (u : Busy (link_at t) chain) where
  abbrev s₁ : List Link
  s₁ = changed t (link_at t x).prev (with_next (link_at t x).next)

  abbrev pub mended_table : List Link
  mended_table = changed s₁ (link_at t x).next (with_previous (link_at t x).prev)

  long_s₁ : length s₁ ≡ length t
  long_s₁ = changed_long t (link_at t x).prev (with_next (link_at t x).next)

  pub mended_long : length mended_table ≡ length t
  mended_long = changed_long s₁ (link_at t x).next (with_previous (link_at t x).prev) ∙ long_s₁

  next_s : (i : ℕ) → 1 ≤ i → (link_at mended_table i).next ≡ (link_at s₁ i).next
  next_s i i1 = changed_field s₁ (link_at t x).next (with_previous (link_at t x).prev) (λ l. (entry l).next) (λ l. (prev_rest _ l).0) (omega (arith, qt, long_s₁)) i i1

  prev_s : (i : ℕ) → 1 ≤ i → (link_at s₁ i).prev ≡ (link_at t i).prev
  prev_s i i1 = changed_field t (link_at t x).prev (with_next (link_at t x).next) (λ l. (entry l).prev) (λ l. (next_rest _ l).0) pt i i1

  home_s₁ : (i : ℕ) → 1 ≤ i → (link_at s₁ i).home ≡ (link_at t i).home
  home_s₁ i i1 = changed_field t (link_at t x).prev (with_next (link_at t x).next) (λ l. (entry l).home) (λ l. (next_rest _ l).1) pt i i1

  home_s : (i : ℕ) → 1 ≤ i → (link_at mended_table i).home ≡ (link_at t i).home
  home_s i i1 = changed_field s₁ (link_at t x).next (with_previous (link_at t x).prev) (λ l. (entry l).home) (λ l. (prev_rest _ l).1) (omega (arith, qt, long_s₁)) i i1 ∙ home_s₁ i i1

  pub mended_ends : (c : Chain) → Owned c → ends_in root (link_at mended_table) c ≡ ends_in root (link_at t) c
  mended_ends c o =
      same_ends root (link_at s₁) (link_at mended_table)
      (λ i i1. changed_field s₁ (link_at t x).next (with_previous (link_at t x).prev) (λ l. (entry l).first) (λ l. (prev_rest _ l).2) (omega (arith, qt, long_s₁)) i i1)
      (λ i i1. changed_field s₁ (link_at t x).next (with_previous (link_at t x).prev) (λ l. (entry l).second) (λ l. (prev_rest _ l).3) (omega (arith, qt, long_s₁)) i i1) c o
      ∙ same_ends root (link_at t) (link_at s₁)
      (λ i i1. changed_field t (link_at t x).prev (with_next (link_at t x).next) (λ l. (entry l).first) (λ l. (next_rest _ l).2) pt i i1)
      (λ i i1. changed_field t (link_at t x).prev (with_next (link_at t x).next) (λ l. (entry l).second) (λ l. (next_rest _ l).3) pt i i1) c o

  w' : Within (length mended_table) chain
  w' = within_more (length t) (length mended_table) chain (omega (arith, mended_long)) w

  u' : (c : Chain) → Owned c → Busy (link_at t) c → Busy (link_at mended_table) c
  u' Root o b = tt
  u' (Members i First) o b = ap is_some (home_s i.number o) ∙ b
  u' (Members i Second) o b = ap is_some (home_s i.number o) ∙ b

  module _ (e : Ends) (e_is : e ≡ ends_without (ends_in root (link_at t) chain) (link_at t x).prev (link_at t x).next) where
    pub unlinked_long : length (hung mended_table chain e) ≡ length t
    unlinked_long = hung_long mended_table root e chain ∙ mended_long

    pub unlinked_later : (n : ℕ) → (link_at t x).prev ≤ n → (link_at t x).next ≤ n → Within n chain → drop n (hung mended_table chain e) ≡ drop n t
    unlinked_later n pn qn wn = hung_later mended_table root e n chain wn ∙ changed_later s₁ (link_at t x).next (with_previous (link_at t x).prev) n qn ∙ changed_later t (link_at t x).prev (with_next (link_at t x).next) n pn

    e₀' : ends_at root (link_at t) (number chain) ≡ ends_in root (link_at t) chain
    e₀' = ends_number root (link_at t) chain (within_owned _ chain w)

    e₁ : ends_at (root_with root chain e) (link_at (hung mended_table chain e)) (number chain) ≡ ends_without (ends_in root (link_at t) chain) (link_at t x).prev (link_at t x).next
    e₁ = here_at mended_table root e chain w' (u' chain (within_owned _ chain w) u) ∙ e_is

    nextₑ : (i : ℕ) → 1 ≤ i → (link_at (hung mended_table chain e) i).next ≡ (link_at s₁ i).next
    nextₑ i i1 = hung_field mended_table root e (λ l. (entry l).next) (λ b l. (ends_rest b e l).0) chain w' i i1 ∙ next_s i i1

    prevₑ : (i : ℕ) → 1 ≤ i → (link_at (hung mended_table chain e) i).prev ≡ (link_at mended_table i).prev
    prevₑ i i1 = hung_field mended_table root e (λ l. (entry l).prev) (λ b l. (ends_rest b e l).1) chain w' i i1

    pub unlinked : Unlinked (link_at t) (link_at (hung mended_table chain e)) (ends_at root (link_at t)) (ends_at (root_with root chain e) (link_at (hung mended_table chain e))) x (number chain)
    unlinked = record {
      mended = record {
        next_at = λ p1. nextₑ _ p1 ∙ ap (λ l. (entry l).next) (changed_same t (link_at t x).prev (with_next (link_at t x).next) p1 pt) ∙ next_next _ _ (before p1);
        prev_at = λ q1. prevₑ _ q1 ∙ ap (λ l. (entry l).prev) (changed_same s₁ (link_at t x).next (with_previous (link_at t x).prev) q1 (omega (arith, qt, long_s₁))) ∙ prev_prev _ _ (ap is_some (home_s₁ _ q1) ∙ behind q1);
        next_else = λ i i1 ne. nextₑ i i1 ∙ ap (λ l. (entry l).next) (changed_else t (link_at t x).prev (with_next (link_at t x).next) i i1 ne);
        prev_else = λ i i1 ne. prevₑ i i1 ∙ ap (λ l. (entry l).prev) (changed_else s₁ (link_at t x).next (with_previous (link_at t x).prev) i i1 ne) ∙ prev_s i i1;
      };
      home = λ i i1. hung_field mended_table root e (λ l. (entry l).home) (λ b l. (ends_rest b e l).2) chain w' i i1 ∙ home_s i i1;
      head_new = λ z. ap (λ e. e.head) e₁ ∙ ap (λ b. cond b (ends_in root (link_at t) chain).head (link_at t x).next) (le-ltb 0 _ (omega (arith, z)));
      head_old = λ z. ap (λ e. e.head) e₁ ∙ ap (λ b. cond b (ends_in root (link_at t) chain).head (link_at t x).next) (lt-ltb 0 _ z) ∙ ap (λ e. e.head) (sym e₀');
      tail_new = λ z. ap (λ e. e.tail) e₁ ∙ ap (λ b. cond b (ends_in root (link_at t) chain).tail (link_at t x).prev) (le-ltb 0 _ (omega (arith, z)));
      tail_old = λ z. ap (λ e. e.tail) e₁ ∙ ap (λ b. cond b (ends_in root (link_at t) chain).tail (link_at t x).prev) (lt-ltb 0 _ z) ∙ ap (λ e. e.tail) (sym e₀');
      ends_else = λ d ne. else_at mended_table root e chain w' d ne ∙ mended_ends (chain_at d) (at_owned d);
    }

-- a block goes in front of the free stack
module _ (t : List Link) (root : Ends) (x top : ℕ) (x1 : 1 ≤ x) (xt : x ≤ length t) where
  pub freeing : Freeing (link_at t) (link_at (set t (x - 1) (Free top))) (ends_at root (link_at t)) (ends_at root (link_at (set t (x - 1) (Free top)))) x top
  freeing = record {
    mended = record {
      next_at = λ _. ap (λ l. (entry l).next) (slot_same t x _ x1 xt);
      prev_at = λ _. ap (λ l. (entry l).prev) (slot_same t x _ x1 xt);
      next_else = λ i i1 ne. ap (λ l. (entry l).next) (slot_else t x i _ x1 i1 ne);
      prev_else = λ i i1 ne. ap (λ l. (entry l).prev) (slot_else t x i _ x1 i1 ne);
    };
    home_x = ap (λ l. (entry l).home) (slot_same t x _ x1 xt);
    home_else = λ i i1 ne. ap (λ l. (entry l).home) (slot_else t x i _ x1 i1 ne);
    ends_first = ends_first root (link_at (set t (x - 1) (Free top))) x x1 ∙ ap (λ l. (entry l).first) (slot_same t x _ x1 xt);
    ends_second = ends_second root (link_at (set t (x - 1) (Free top))) x x1 ∙ ap (λ l. (entry l).second) (slot_same t x _ x1 xt);
    ends_else = λ d m1 m2. other_ends root t x _ x1 (chain_at d) (at_owned d) (λ is. m1 (sym (number_at d) ∙ is)) (λ is. m2 (sym (number_at d) ∙ is));
  }
