-- Stores after a creation. Assumes nothing.
use Rattle.std.proofs.Common.{◌≡◌, ℕ, List, [], ◌∷◌, sym, refl, ap, ◌∙◌}
use Rattle.make.specs.declared.kind.Kind.{Kind}
use Rattle.make.specs.declared.kind.Kind.TheVariants.{System, Site, ChannelGroup, TalkgroupGroup, Channel, Talkgroup, TrunkFrequency}
use Rattle.make.specs.Data.{MakeSpec}
use Rattle.chain.specs.Rows.{head_or}
use Rattle.chain.specs.Blocks.{Blocks, created, behind}
use Rattle.pool.specs.Elements.{stored}
use Rattle.ledger.specs.Ledger.{Store, Holding, fresh, type_for}
use Rattle.ledger.specs.Steps.{grown, grown_by}

pub same_store : (b b' : Blocks) (h h' : List Holding) → b ≡ b' → h ≡ h' → ◌≡◌ {A = Store} (record { blocks = b; held = h }) (record { blocks = b'; held = h' })
same_store b b' h h' e f = λ k. record { blocks = e k; held = f k }

grown_by_lem : (S : MakeSpec) (L : Store) (free : List ℕ) (c : ℕ) (k : Kind) (n : ℕ) → L.blocks.free ≡ free → ◌≡◌ {A = Store} (record { blocks = behind free L.blocks.chains c; held = stored (head_or 0 free) (fresh S k n) L.held }) (grown_by S L free c k n)
grown_by_lem S L [] c k n e = same_store (record { chains = L.blocks.chains; free = [] }) L.blocks L.held L.held (λ i. record { chains = L.blocks.chains; free = sym e i }) refl
grown_by_lem S L (x ∷ free) c k n e = same_store _ _ _ _ (ap (λ z. behind z L.blocks.chains c) (sym e)) refl

pub grown_is : (S : MakeSpec) (L : Store) (c : ℕ) (k : Kind) (n : ℕ) (b : Blocks) (hs : List Holding) → b ≡ created L.blocks c → hs ≡ stored (head_or 0 L.blocks.free) (fresh S k n) L.held → ◌≡◌ {A = Store} (record { blocks = b; held = hs }) (grown S L c k n)
grown_is S L c k n b hs e f = same_store _ _ _ _ e f ∙ grown_by_lem S L L.blocks.free c k n refl

type_for_lem : (k : Kind) (t n : ℕ) → (k ≡ System → t ≡ n) → type_for k t ≡ type_for k n
type_for_lem System t n h = h refl
type_for_lem Site t n h = refl
type_for_lem ChannelGroup t n h = refl
type_for_lem TalkgroupGroup t n h = refl
type_for_lem Channel t n h = refl
type_for_lem Talkgroup t n h = refl
type_for_lem TrunkFrequency t n h = refl

-- a record that means what a new one means
pub means : (k K : Kind) (n t : ℕ) (ts us : List (List ℕ)) → K ≡ k → (k ≡ System → t ≡ n) → ts ≡ us → ◌≡◌ {A = Holding} (record { kind = K; system_type = type_for K t; texts = ts }) (record { kind = k; system_type = type_for k n; texts = us })
means k K n t ts us e h f = let g : type_for K t ≡ type_for k n = ap (λ z. type_for z t) e ∙ type_for_lem k t n h in λ i. record { kind = e i; system_type = g i; texts = f i }
