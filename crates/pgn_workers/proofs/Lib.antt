mod HalfLaws
mod RoundLaws
