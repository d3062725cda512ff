mod ApartLemmas
mod HalfLemmas
