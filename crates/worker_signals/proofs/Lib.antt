mod DueLemmas
