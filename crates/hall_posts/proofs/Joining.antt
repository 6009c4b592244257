-- Posts that are split off a pass and joined to it again, one after another.
use Rattle.std.proofs.Common.{◌≡◌, ℕ, ◌+◌, ◌<◌, ◌≤◌, max, List, [], ◌∷◌, ◌++◌, length, map, refl, sym, ap, ◌∙◌, arith, subst}
use Rattle.std.proofs.Common.{append_assoc, length-append}
use Rattle.std.specs.Prelude.{All, flat_map, slice_index_or}
use Rattle.std.proofs.lemmas.List.{append-nil, map-append}
use Rattle.std.proofs.lemmas.List.Concat.{flat_map-append}
use Rattle.std.proofs.lemmas.List.Elements.{All-nil, All-push}
use Rattle.std.proofs.lemmas.List.Sums.{sum_by_push}
use Rattle.portal_hall.specs.History.{Begins}
use Rattle.portal_hall.specs.Passes.{IsPassOf, mark, own, room_of, seen}
use Rattle.portal_hall.specs.declared.hall.Hall.{Hall}
use Rattle.portal_hall.specs.declared.pass.Pass.{Pass}
use Rattle.portal_hall.proofs.Prefixes.{begins_self, begins_trans}
use Rattle.hall_posts.specs.Posts.{Advances, IsNewPost, Knows, indexes_of, seats_in, work_of}
use Rattle.hall_posts.specs.declared.posts.Post.{Post}

-- lists of posts of the hall for such works
abbrev pub PostsFor : {M W E R : Type 0} → Hall M E R → List W → Type 0
PostsFor {M} {W} {E} {R} hall works = List (Post M W E R)

module _ {M W E R : Type 0} (hall : Hall M E R) where
  -- These posts were split off the pass, for the works before the rest.
  pub record SplitOff (from : Pass M E R) (works : List W) (posts : List (Post M W E R)) (pass : Pass M E R) (rest : List W)
      : Type 0 where
    pub pass_is : IsPassOf hall pass
    pub seats : room_of pass + length posts ≡ room_of from
    pub events : seen pass ≡ seen from
    pub indexes : own pass ≡ own from
    pub faults : mark pass ≡ mark from
    pub new_ones : All (IsNewPost hall from) posts
    pub works_are : works ≡ map work_of posts ++ rest

  pub split_none : (pass : Pass M E R) (works : List W) (posts : List (Post M W E R)) (rest : List W) → IsPassOf hall pass
      → posts ≡ [] → rest ≡ works → SplitOff pass works posts pass rest
  split_none pass works posts rest is none all = subst (λ (l : List (Post M W E R)). SplitOff pass works l pass rest) (sym none)
      (record {
        pass_is = is;
        seats = omega arith;
        events = refl;
        indexes = refl;
        faults = refl;
        new_ones = All-nil (IsNewPost hall pass);
        works_are = sym all;
      })

  pub split_next : (from : Pass M E R) (works : List W) (posts posts' : List (Post M W E R)) (pass pass' : Pass M E R)
      (rest rest' : List W) (work : W) (post : Post M W E R) → SplitOff from works posts pass rest → rest ≡ work ∷ rest'
      → posts' ≡ posts ++ post ∷ [] → IsPassOf hall pass' → room_of pass' + 1 ≡ room_of pass → seen pass' ≡ seen pass
      → own pass' ≡ own pass → mark pass' ≡ mark pass → IsNewPost hall pass post → post.work ≡ work
      → SplitOff from works posts' pass' rest'
  split_next from works posts posts' pass pass' rest rest' work post s step pushed is room_is events_is indexes_is faults_is new work_is =
      subst (λ (l : List (Post M W E R)). SplitOff from works l pass' rest') (sym pushed) (record {
        pass_is = is;
        seats = omega (arith, room_is, s.seats, length-append posts (post ∷ []));
        events = events_is ∙ s.events;
        indexes = indexes_is ∙ s.indexes;
        faults = faults_is ∙ s.faults;
        new_ones = All-push (IsNewPost hall from) posts post s.new_ones (record {
          pass = new.pass;
          room = new.room;
          same = new.same ∙ s.events;
          fresh = new.fresh;
          faults = new.faults ∙ s.faults;
        });
        works_are = s.works_are
            ∙ ap (λ (l : List W). map work_of posts ++ l) step
            ∙ ap (λ (w : W). map work_of posts ++ w ∷ rest') (sym work_is)
            ∙ sym (append_assoc (map work_of posts) (post.work ∷ []) rest')
            ∙ ap (λ (l : List W). l ++ rest') (sym (map-append work_of posts (post ∷ [])));
      })

  pub split_all : (from : Pass M E R) (works : List W) (posts : List (Post M W E R)) (pass : Pass M E R) (rest : List W)
      → SplitOff from works posts pass rest → rest ≡ [] → map work_of posts ≡ works
  split_all from works posts pass rest s none =
      sym (s.works_are ∙ ap (λ (l : List W). map work_of posts ++ l) none ∙ append-nil (map work_of posts))

  -- these posts were joined to the pass, and their works added to the list
  pub record Joined (from : Pass M E R) (works : List W) (posts : List (Post M W E R)) (pass : Pass M E R) (all : List W)
      : Type 0 where
    pub pass_is : IsPassOf hall pass
    pub seats : room_of pass ≡ room_of from + seats_in posts
    pub events : Begins (seen from) (seen pass)
    pub faults : mark from ≤ mark pass
    pub known : All (Knows pass) posts
    pub indexes : own pass ≡ own from ++ indexes_of posts
    pub works_are : all ≡ works ++ map work_of posts

  pub joined_none : (pass : Pass M E R) (works : List W) → IsPassOf hall pass → Joined pass works [] pass works
  joined_none pass works is = record {
    pass_is = is;
    seats = omega arith;
    events = begins_self (seen pass);
    faults = omega arith;
    known = All-nil (Knows pass);
    indexes = sym (append-nil (own pass));
    works_are = sym (append-nil works);
  }

  indexes_pushed : (posts : List (Post M W E R)) (post : Post M W E R)
      → indexes_of (posts ++ post ∷ []) ≡ indexes_of posts ++ own post.pass
  indexes_pushed posts post = flat_map-append (λ (p : Post M W E R). own p.pass) posts (post ∷ [])
      ∙ ap (λ (l : List ℕ). indexes_of posts ++ l) (append-nil (own post.pass))

  pub joined_next : (from : Pass M E R) (works : List W) (posts : List (Post M W E R)) (pass pass' : Pass M E R)
      (all all' : List W) (post : Post M W E R) → Joined from works posts pass all → IsPassOf hall pass'
      → room_of pass' ≡ room_of pass + room_of post.pass → Begins (seen pass) (seen pass')
      → Begins (seen post.pass) (seen pass') → own pass' ≡ own pass ++ own post.pass
      → mark pass' ≡ max (mark pass) (mark post.pass) → all' ≡ all ++ post.work ∷ []
      → Joined from works (posts ++ post ∷ []) pass' all'
  joined_next from works posts pass pass' all all' post j is room_is events_is others indexes_is faults_is works_is = record {
    pass_is = is;
    seats = omega (arith, room_is, j.seats, sum_by_push (λ (p : Post M W E R). room_of p.pass) posts post);
    events = begins_trans (seen from) (seen pass) (seen pass') j.events events_is;
    faults = omega (arith, j.faults, faults_is);
    known = All-push (Knows pass') posts post
        (λ k d lt. let h = j.known k d lt in record {
          events = begins_trans (seen (slice_index_or posts k d).pass) (seen pass) (seen pass') h.events events_is;
          faults = omega (arith, h.faults, faults_is);
        })
        (record { events = others; faults = omega (arith, faults_is) });
    indexes = indexes_is
        ∙ ap (λ (l : List ℕ). l ++ own post.pass) j.indexes
        ∙ append_assoc (own from) (indexes_of posts) (own post.pass)
        ∙ ap (λ (l : List ℕ). own from ++ l) (sym (indexes_pushed posts post));
    works_are = works_is
        ∙ ap (λ (l : List W). l ++ post.work ∷ []) j.works_are
        ∙ append_assoc works (map work_of posts) (post.work ∷ [])
        ∙ ap (λ (l : List W). works ++ l) (sym (map-append work_of posts (post ∷ [])));
  }

  pub joined_all : (from : Pass M E R) (works : List W) (posts done rest : List (Post M W E R)) (pass : Pass M E R)
      (all : List W) → Joined from works done pass all → posts ≡ done ++ rest → rest ≡ [] → Joined from works posts pass all
  joined_all from works posts done rest pass all j is none =
      subst (λ (l : List (Post M W E R)). Joined from works l pass all)
      (sym (is ∙ ap (λ (l : List (Post M W E R)). done ++ l) none ∙ append-nil done)) j

module _ {M E R : Type 0} (hall : Hall M E R) where
  pub advance_twice : (m n : List ℕ) (one two three : Pass M E R) → Advances hall m one two → Advances hall n two three
      → Advances hall (m ++ n) one three
  advance_twice m n one two three p q = record {
    pass = q.pass;
    room = q.room ∙ p.room;
    events = begins_trans (seen one) (seen two) (seen three) p.events q.events;
    indexes = q.indexes ∙ ap (λ (l : List ℕ). l ++ n) p.indexes ∙ append_assoc (own one) m n;
    faults = omega (arith, p.faults, q.faults);
  }
