mod HalvesAlone
