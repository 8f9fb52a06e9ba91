-- The parts of a text around a byte.
use Rattle.std.proofs.Common.{◌≡◌, ◌≢◌, ◌==◌, ℕ, ◌<◌, List, [], ◌∷◌, ◌++◌, Some, get_or, take, drop}
use Rattle.std.proofs.Common.{refl, sym, ap, subst, ◌∙◌, arith, false}
use Rattle.std.specs.List.{All}
use Rattle.std.specs.Str.{NoCharPasses}
use Rattle.std.specs.Str.Pattern.{FindsChar, RFindsChar, HasCharAt, SplitsAroundMatch}
use Rattle.std.proofs.lemmas.Str.{NoCharPasses-byte}
use Rattle.std.proofs.lemmas.Str.Pattern.{drop_at_char}
use Rattle.std.proofs.lemmas.List.{get_or_default, take-append-drop}
use Rattle.std.proofs.lemmas.List.Elements.{All-head, All-tail}
use Rattle.std.proofs.lemmas.Bool.Decides.{nat_tests}
use Rattle.resp_errors.specs.Numerals.{UnsignedText}
use Rattle.resp_errors.specs.ServerErrors.{server_details_of}
use Rattle.resp_errors.specs.declared.kinds.ServerErrorKind.{ServerErrorKind}
use Rattle.resp_errors.specs.declared.kinds.ServerErrorKind.TheVariants as kind
use Rattle.resp_errors.specs.declared.server_error.ServerError.{ServerError}
use Rattle.resp_cluster.specs.Redirects.{AroundFirst, AroundLast, NamesAddr, NamesPlace, SendsTo, SendsNowhere, space, colon}
use Rattle.resp_cluster.specs.declared.node.NodeAddr.{NodeAddr}

module _ (c : ℕ) where
  not_among : (front back : List ℕ) → All (λ b. b ≢ c) (front ++ c ∷ back) → ⊥
  not_among [] back none = All-head (λ b. b ≢ c) c back none refl
  not_among (x ∷ front) back none = not_among front back (All-tail (λ b. b ≢ c) x (front ++ c ∷ back) none)

  tails : (x y : ℕ) (xs ys : List ℕ) → x ∷ xs ≡ y ∷ ys → xs ≡ ys
  tails x y xs ys e = cc

  heads : (x y : ℕ) (xs ys : List ℕ) → x ∷ xs ≡ y ∷ ys → x ≡ y
  heads x y xs ys e = cc

  pub first_unique : (f b g d : List ℕ) → All (λ x. x ≢ c) f → All (λ x. x ≢ c) g
      → f ++ c ∷ b ≡ g ++ c ∷ d → (f ≡ g) × (b ≡ d)
  first_unique [] b [] d none other e = (refl, tails c c b d e)
  first_unique [] b (y ∷ g) d none other e =
      absurd (All-head (λ x. x ≢ c) y g other (sym (heads c y b (g ++ c ∷ d) e)))
  first_unique (x ∷ f) b [] d none other e = absurd (All-head (λ x. x ≢ c) x f none (heads x c (f ++ c ∷ b) d e))
  first_unique (x ∷ f) b (y ∷ g) d none other e =
      let rest = first_unique f b g d (All-tail (λ x. x ≢ c) x f none) (All-tail (λ x. x ≢ c) y g other)
      (tails x y (f ++ c ∷ b) (g ++ c ∷ d) e) in
      let head = heads x y (f ++ c ∷ b) (g ++ c ∷ d) e in
      (ap (λ h. h ∷ f) head ∙ ap (λ t. y ∷ t) rest.0, rest.1)

  pub last_unique : (f b g d : List ℕ) → All (λ x. x ≢ c) b → All (λ x. x ≢ c) d
      → f ++ c ∷ b ≡ g ++ c ∷ d → (f ≡ g) × (b ≡ d)
  last_unique [] b [] d none other e = (refl, tails c c b d e)
  last_unique [] b (y ∷ g) d none other e =
      absurd (not_among g d (subst (λ l. All (λ x. x ≢ c) l) (tails c y b (g ++ c ∷ d) e) none))
  last_unique (x ∷ f) b [] d none other e =
      absurd (not_among f b (subst (λ l. All (λ x. x ≢ c) l) (sym (tails x c (f ++ c ∷ b) d e)) other))
  last_unique (x ∷ f) b (y ∷ g) d none other e =
      let rest = last_unique f b g d none other (tails x y (f ++ c ∷ b) (g ++ c ∷ d) e) in
      let head = heads x y (f ++ c ∷ b) (g ++ c ∷ d) e in
      (ap (λ h. h ∷ f) head ∙ ap (λ t. y ∷ t) rest.0, rest.1)

  not_both : (b : ℕ) → b ≡ c → (b == c) ≡ false → ⊥
  not_both b same differ = grind (arith, nat_tests)

  absent : (bs : List ℕ) → c < 128 → NoCharPasses (λ d. d == c) bs → All (λ b. b ≢ c) bs
  absent bs low none k d lt same =
      let at_zero : get_or bs k 0 ≡ c = sym (get_or_default bs k d 0 lt) ∙ same in
      not_both (get_or bs k 0) at_zero
      (NoCharPasses-byte (λ d. d == c) bs k none lt (subst (λ n. n < 128) (sym at_zero) low))

  whole : (bs : List ℕ) (i j : ℕ) → c < 128 → HasCharAt c bs i j → bs ≡ take i bs ++ c ∷ drop j bs
  whole bs i j low has = sym (take-append-drop i bs) ∙ ap (λ back. take i bs ++ back) (drop_at_char c bs i j has low)

  pub at_first : (text front back : List ℕ) → c < 128 → SplitsAroundMatch (FindsChar c) text front back
      → AroundFirst c text front back
  at_first text front back low s = record {
    whole = whole text s.0 s.1 low s.2.1 ∙ ap (λ f. f ++ c ∷ drop s.1 text) (sym s.3) ∙ ap (λ b. front ++ c ∷ b) (sym s.4);
    first = subst (λ l. All (λ b. b ≢ c) l) (sym s.3) (absent (take s.0 text) low s.2.0);
  }

  pub at_last : (text front back : List ℕ) → c < 128 → SplitsAroundMatch (RFindsChar c) text front back
      → AroundLast c text front back
  at_last text front back low s = record {
    whole = whole text s.0 s.1 low s.2.1 ∙ ap (λ f. f ++ c ∷ drop s.1 text) (sym s.3) ∙ ap (λ b. front ++ c ∷ b) (sym s.4);
    last = subst (λ l. All (λ b. b ≢ c) l) (sym s.4) (absent (drop s.1 text) low s.2.0);
  }

  pub nowhere : (text front back : List ℕ) → c < 128 → NoCharPasses (λ d. d == c) text
      → text ≡ front ++ c ∷ back → ⊥
  nowhere text front back low none is =
      not_among front back (subst (λ l. All (λ b. b ≢ c) l) is (absent text low none))

-- addresses
module _ (asked text : List ℕ) where
  pub no_colon : NoCharPasses (λ d. d == colon) text → (node : NodeAddr) → NamesAddr asked text node → ⊥
  no_colon none node named = nowhere colon text named.host named.port (omega arith) none named.parts.whole

  pub no_port : (host port : List ℕ) → AroundLast colon text host port
      → ((n : ℕ) → UnsignedText 16 port n → ⊥) → (node : NodeAddr) → NamesAddr asked text node → ⊥
  no_port host port parts none node named =
      let same = last_unique colon named.host named.port host port named.parts.last parts.last
      (sym named.parts.whole ∙ parts.whole) in
      none node.port (subst (λ p. UnsignedText 16 p node.port) same.1 named.port_is)

-- places
module _ (asked text : List ℕ) where
  pub no_space : NoCharPasses (λ d. d == space) text → (slot : ℕ) (node : NodeAddr)
      → NamesPlace asked text slot node → ⊥
  no_space none slot node named = nowhere space text named.number named.address (omega arith) none named.parts.whole

  module _ (number address : List ℕ) (parts : AroundFirst space text number address) (slot : ℕ) (node : NodeAddr)
      (named : NamesPlace asked text slot node) where
    same_parts : (named.number ≡ number) × (named.address ≡ address)
    same_parts = first_unique space named.number named.address number address named.parts.first parts.first
        (sym named.parts.whole ∙ parts.whole)

    pub no_slot : ((n : ℕ) → UnsignedText 16 number n → n < 16384 → ⊥) → ⊥
    no_slot none = none slot (subst (λ t. UnsignedText 16 t slot) same_parts.0 named.slot_is) named.in_range

    pub no_node : ((n : NodeAddr) → NamesAddr asked address n → ⊥) → ⊥
    no_node none = none node (subst (λ t. NamesAddr asked t node) same_parts.1 named.node_is)

-- an error of this kind that names no place sends nowhere
module _ (asked detail : List ℕ) (e : ServerError) (says : server_details_of e ≡ Some detail)
    (none : (slot : ℕ) (node : NodeAddr) → NamesPlace asked detail slot node → ⊥) where
  pub sends_nowhere : SendsNowhere asked e
  sends_nowhere = record {
    not_moved = λ slot node sends. by_detail kind.Moved slot node sends;
    not_asked = λ slot node sends. by_detail kind.Ask slot node sends;
  }
    where
      by_detail : (k : ServerErrorKind) (slot : ℕ) (node : NodeAddr) → SendsTo k asked e slot node → ⊥
      by_detail k slot node sends =
          let same : Some sends.detail ≡ Some detail = sym sends.says ∙ says in
          let detail_is : sends.detail ≡ detail = cc in
          none slot node (subst (λ t. NamesPlace asked t slot node) detail_is sends.names)
